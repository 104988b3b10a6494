-- A try: its load, and its exchange.
use Rattle.std.proofs.Common.{rules, ◌≡◌, ◌^◌, ◌<◌, ◌∙◌, sym, ap, subst, ℕ, List, slice_index, bit_xor}
use Rattle.chi_fields.specs.Extent.{granule_of}
use Rattle.chi_fields.specs.Access.{Access}
use Rattle.chi_history.specs.declared.opening.Opening.{Opening}
use Rattle.chi_history.specs.HomeClauses.{Completes, Retries}
use Rattle.chi_history.specs.NumberLists.{has}
use Rattle.chi_rule.specs.declared.view.View.{View}
use Rattle.chi_rule.specs.StepFacts.{Applies}
use Rattle.chi_rule.proofs.StepFactLemmas.{Answers, answers, applies}
use Rattle.chi_rule.proofs.TryLemmas.{try_lost, try_won}
use Rattle.chi_rule.proofs.SeatLemmas.{held_try, known_opening, known_try}
use Rattle.chi_bookstore.proofs.tries.try_once.Goals as goal

pub exchange-now-requires-clause-applies : goal.exchange-now-requires-clause-applies
exchange-now-requires-clause-applies g c =
    let o : Opening = c.args.home.now.values in
    let a : Access = c.args.purpose.now.access in
    let found : ℕ = c.look-found.result in
    let image : List ℕ = c.image-image.result.now in
    let at : ℕ = c.granule-granule.result in
    let next : ℕ = bit_xor c.apply-word.result.0 (slice_index image at) in
    let same : image ≡ o.image = search rules in
    let here : at ≡ granule_of a.addr o.region = search rules in
    let mask : slice_index image at ≡ slice_index o.image (granule_of a.addr o.region) = λ i. slice_index (same i) (here i) in
    let under : granule_of a.addr o.region < o.region.granules = subst (λ (n : ℕ). n < o.region.granules) here (search rules) in
    let small : slice_index o.image (granule_of a.addr o.region) < 2 ^ 64 = c.args.home.now.opening.words (granule_of a.addr o.region) in
    let asked : Applies o a found next =
    applies o a found (bit_xor found (slice_index image at)) c.apply-word.result.0 next under small c.requires.fits c.apply-word.ensures.changed (ap (bit_xor found) mask)
    (ap (bit_xor c.apply-word.result.0) mask) in
    search rules

pub returns-then-now-found : goal.returns-then-now-found
returns-then-now-found g c =
    let o : Opening = c.args.home.now.values in
    let v : View = c.args.seat.now.me.0 in
    let w : View = c.exchange-now.new.seat.me.0 in
    let a : Access = c.args.purpose.now.access in
    let found : ℕ = c.look-found.result in
    let image : List ℕ = c.image-image.result.now in
    let at : ℕ = c.granule-granule.result in
    let is : v.opening ≡ o = known_opening o v c.requires.known in
    let same : image ≡ o.image = search rules in
    let here : at ≡ granule_of a.addr o.region = search rules in
    let mask : slice_index image at ≡ slice_index o.image (granule_of a.addr o.region) = λ i. slice_index (same i) (here i) in
    let under : granule_of a.addr o.region < o.region.granules = subst (λ (n : ℕ). n < o.region.granules) here (search rules) in
    let small : slice_index o.image (granule_of a.addr o.region) < 2 ^ 64 = c.args.home.now.opening.words (granule_of a.addr o.region) in
    let told : Answers o a found c.apply-word.result.1 =
    answers o a found (bit_xor found (slice_index image at)) c.apply-word.result.1 under small c.requires.fits c.apply-word.ensures.answered (ap (bit_xor found) mask) in
    let won =
    try_won v c.look-found.new.seat.me.0 w at found c.args.purpose.now.src a c.exchange-now.result c.apply-word.result.1 c.look-found.ensures.looks
    c.exchange-now.ensures.exchanged c.if-now-found.true
    (subst (λ (z : Opening × ℕ). Answers z.0 a z.1 c.apply-word.result.1) (λ i. (sym is i, sym c.if-now-found.true i)) told) in
    record {
      own = search rules;
      known = known_try o v w c.requires.known won.0;
      held = held_try v w won.0;
      tried = subst (λ (z : Opening). Completes z (has v.held) v.seen w.seen c.args.purpose.now.src a c.apply-word.result.1 0) is won.1;
    }

pub returns-else-now-found : goal.returns-else-now-found
returns-else-now-found g c =
    let o : Opening = c.args.home.now.values in
    let v : View = c.args.seat.now.me.0 in
    let w : View = c.exchange-now.new.seat.me.0 in
    let a : Access = c.args.purpose.now.access in
    let at : ℕ = c.granule-granule.result in
    let is : v.opening ≡ o = known_opening o v c.requires.known in
    let here : at ≡ granule_of a.addr o.region = search rules in
    let place : at ≡ granule_of a.addr v.opening.region = here ∙ ap (λ (z : Opening). granule_of a.addr z.region) (sym is) in
    let lost =
    try_lost v c.look-found.new.seat.me.0 w at c.look-found.result c.args.purpose.now.src a c.exchange-now.result place c.look-found.ensures.looks
    c.exchange-now.ensures.exchanged c.if-now-found.false in
    record {
      own = search rules;
      known = known_try o v w c.requires.known lost.0;
      held = held_try v w lost.0;
      tried = subst (λ (z : Opening). Retries z (has v.held) v.seen w.seen a 1) is lost.1;
    }
