-- the granule's word is noted, and no other granule changes
use Rattle.std.proofs.Common.{◌≡◌, rules, ℕ, Option, Some, ap, ◌∙◌}
use Rattle.std.proofs.lemmas.Result.{IfOk-weaker}
use Rattle.std.specs.BTreeMap.{get}
use Rattle.std.specs.Ordering.{nat_cmp}
use Rattle.chi_watch.specs.Changes.{IsMarked}
use Rattle.chi_watch.specs.Followed.{FollowedValue}
use Rattle.chi_watch.proofs.granules.set_last.Goals as goal

pub returns-in-Some : goal.returns-in-Some
returns-in-Some c =
    let old : ℕ → Option FollowedValue = get nat_cmp c.args.granules.now in
    let new : ℕ → Option FollowedValue = get nat_cmp (c.get_mut.follows.lender c.tell_final.new.granule) in
    let before : FollowedValue = c.in-Some.kept.now in
    let was : old c.args.granule ≡ Some before = search rules in
    let is : new c.args.granule ≡ Some c.tell_final.new.granule = search rules in
    let others : (h : ℕ) → (h ≡ c.args.granule → ⊥) → new h ≡ old h = search rules in
    IfOk-weaker c.tell_final.result _ (λ _. IsMarked c.args.granule (λ f. record f { final_word = Some c.args.word }) old new)
    (λ done same. record { others = others; before = before; was = was; is = is ∙ ap Some same }) c.tell_final.ensures
