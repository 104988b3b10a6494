-- the granule is watched, and then it is noted that it is unknown
use Rattle.std.proofs.Common.{◌≡◌, rules, ℕ, Option, Some, subst, sym}
use Rattle.std.proofs.lemmas.Result.{IfOk-weaker}
use Rattle.std.specs.BTreeMap.{get}
use Rattle.std.specs.Ordering.{nat_cmp}
use Rattle.chi_watch.specs.Changes.{BecomesUnknown, GranuleBecomesUnknown}
use Rattle.chi_watch.specs.Followed.{FollowedValue}
use Rattle.chi_watch.proofs.Touched.{others_stay, was_touched}
use Rattle.chi_watch.proofs.granules.tell_unknown_at.Goals as goal

pub returns-in-Some : goal.returns-in-Some
returns-in-Some c =
    let g = c.args.granule in
    let old : ℕ → Option FollowedValue = get nat_cmp c.args.granules.now in
    let middle : ℕ → Option FollowedValue = get nat_cmp c.touch.new.granules in
    let new : ℕ → Option FollowedValue = get nat_cmp (c.get_mut.follows.lender c.tell_unknown.new.granule) in
    let before : FollowedValue = c.in-Some.kept.now in
    let was : middle g ≡ Some before = search rules in
    let is : new g ≡ Some c.tell_unknown.new.granule = search rules in
    let others : (h : ℕ) → (h ≡ g → ⊥) → new h ≡ middle h = search rules in
    IfOk-weaker c.tell_unknown.result _ (λ _. GranuleBecomesUnknown c.args.shown c.args.granule c.args.time old new)
    (λ done changed. record {
      others = others_stay c.args.shown g 0 old middle new c.in_ok-touch.ensures others;
      unknown = subst (BecomesUnknown c.args.shown c.args.time (old g)) (sym is) (before, was_touched c.args.shown g 0 old middle new c.in_ok-touch.ensures before was, changed);
    }) c.tell_unknown.ensures
