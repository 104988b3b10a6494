-- Each try is of what the access makes of the words found.
use Rattle.std.proofs.Common.{rules, arith, ◌≡◌, ◌<◌, ap, subst, ℕ, bit_xor, slice_index}
use Rattle.crossbeam_utils.specs.Seq.{cell_view}
use Rattle.chi_fields.specs.Extent.{Extent, granule_of}
use Rattle.chi_fields.specs.Access.{Access}
use Rattle.chi_history.specs.declared.opening.Opening.{Opening}
use Rattle.chi_rule.specs.declared.view.View.{View}
use Rattle.chi_rule.specs.StepFacts.{Replaces}
use Rattle.chi_rule.proofs.SeatLemmas.{seat_replaces}
use Rattle.chi_rule.proofs.StepFactLemmas.{Answers, answers, applies}
use Rattle.chi_lockstore.proofs.service.complete.Goals as goal

pub offset_bounds-current-granule : goal.offset_bounds-current-granule
offset_bounds-current-granule g c = omega (arith, c.requires.line, c.granule-granule.ensures.within, ap (λ (z : Extent). z.granules) c.region.ensures)

pub bounds-current-granule : goal.bounds-current-granule
bounds-current-granule g c = omega (arith, c.requires.line, c.granule-granule.ensures.within, ap (λ (z : Extent). z.granules) c.region.ensures)

pub try_once-requires-clause-below : goal.try_once-requires-clause-below
try_once-requires-clause-below g c = omega (arith, c.requires.line, c.granule-granule.ensures.within, ap (λ (z : Extent). z.granules) c.region.ensures)

pub try_once-requires-clause-applies : goal.try_once-requires-clause-applies
try_once-requires-clause-applies g c =
    let o : Opening = c.args.values.now in
    let a : Access = c.args.purpose.now.access in
    let at : ℕ = c.granule-granule.result in
    let found : ℕ = slice_index c.tries.current at in
    let mask : ℕ = slice_index c.image-image.result.now at in
    let here : at ≡ granule_of a.addr o.region = search rules in
    let is : mask ≡ slice_index o.image (granule_of a.addr o.region) = λ i. slice_index (c.image-image.ensures i) (here i) in
    let under : granule_of a.addr o.region < o.region.granules = subst (λ (n : ℕ). n < o.region.granules) here (search rules) in
    applies o a found (bit_xor found mask) c.apply-word.result.0 (bit_xor c.apply-word.result.0 mask) under (c.requires.opening.words (granule_of a.addr o.region))
    c.requires.fits c.apply-word.ensures.changed (ap (bit_xor found) is) (ap (bit_xor c.apply-word.result.0) is)

pub returns-in-Ok : goal.returns-in-Ok
returns-in-Ok g c =
    let o : Opening = c.args.values.now in
    let v : View = cell_view c.args.pass.now in
    let w : View = cell_view c.try_once.new.pass in
    let a : Access = c.args.purpose.now.access in
    let at : ℕ = c.granule-granule.result in
    let found : ℕ = slice_index c.tries.current at in
    let here : at ≡ granule_of a.addr o.region = search rules in
    let is : slice_index c.image-image.result.now at ≡ slice_index o.image (granule_of a.addr o.region) = λ i. slice_index (c.image-image.ensures i) (here i) in
    let under : granule_of a.addr o.region < o.region.granules = subst (λ (n : ℕ). n < o.region.granules) here (search rules) in
    let told : Answers o a found c.apply-word.result.1 =
    answers o a found (bit_xor found (slice_index c.image-image.result.now at)) c.apply-word.result.1 under (c.requires.opening.words (granule_of a.addr o.region))
    c.requires.fits c.apply-word.ensures.answered (ap (bit_xor found) is) in
    let done =
    seat_replaces o v c.tries.current c.args.purpose.now.src a w c.apply-word.result.1 c.requires.known
    (subst (λ (z : View). Replaces z c.tries.current c.args.purpose.now.src a w) c.tries.invariant.same c.in-Ok.ensures.tried)
    (subst (λ (n : ℕ). Answers o a (slice_index c.tries.current n) c.apply-word.result.1) here told) in
    record { own = search rules; known = done.0; held = done.1; done = done.2 }
