-- the granule is watched, and then its word is noted
use Rattle.std.proofs.Common.{◌≡◌, rules, ℕ, Option, Some, subst, sym}
use Rattle.std.proofs.lemmas.Result.{IfOk-weaker}
use Rattle.std.specs.BTreeMap.{get}
use Rattle.std.specs.Ordering.{nat_cmp}
use Rattle.chi_watch.specs.Changes.{BecomesKnown, GranuleBecomesKnown}
use Rattle.chi_watch.specs.Followed.{FollowedValue}
use Rattle.chi_watch.proofs.Touched.{others_stay, was_touched}
use Rattle.chi_watch.proofs.granules.tell_word_at.Goals as goal

pub returns-in-Some : goal.returns-in-Some
returns-in-Some c =
    let g = c.args.told.now.granule in
    let old : ℕ → Option FollowedValue = get nat_cmp c.args.granules.now in
    let middle : ℕ → Option FollowedValue = get nat_cmp c.touch.new.granules in
    let new : ℕ → Option FollowedValue = get nat_cmp (c.get_mut.follows.lender c.tell_word.new.granule) in
    let before : FollowedValue = c.in-Some.kept.now in
    let was : middle g ≡ Some before = search rules in
    let is : new g ≡ Some c.tell_word.new.granule = search rules in
    let others : (h : ℕ) → (h ≡ g → ⊥) → new h ≡ middle h = search rules in
    IfOk-weaker c.tell_word.result _ (λ _. GranuleBecomesKnown c.args.shown c.args.time c.args.told.now old new)
    (λ done changed. record {
      others = others_stay c.args.shown g c.args.told.now.word old middle new c.in_ok-touch.ensures others;
      known = subst (BecomesKnown c.args.shown c.args.time c.args.told.now (old g)) (sym is) (before, was_touched c.args.shown g c.args.told.now.word old middle new c.in_ok-touch.ensures before was, changed);
    }) c.tell_word.ensures
