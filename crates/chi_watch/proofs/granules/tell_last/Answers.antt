-- the granule is watched, and then its word is noted
use Rattle.std.proofs.Common.{◌≡◌, ℕ, Option, Some, sym, subst, ◌∙◌}
use Rattle.std.proofs.lemmas.Result.{IfOk-weaker}
use Rattle.std.specs.BTreeMap.{get}
use Rattle.std.specs.Ordering.{nat_cmp}
use Rattle.chi_watch.specs.Changes.{IsMarked, IsSameOrUntouched, IsTouched, IsTouchedAndMarked}
use Rattle.chi_watch.specs.Followed.{FollowedValue}
use Rattle.chi_watch.proofs.granules.tell_last.Goals as goal

then_marked : (n g : ℕ) (change : FollowedValue → FollowedValue) (old middle new : ℕ → Option FollowedValue) → IsTouched n old middle g 0 → IsMarked g change middle new → IsTouchedAndMarked n g change old new
then_marked n g change old middle new t m =
    let both : Some t.followed ≡ Some m.before = sym t.is ∙ m.was in
    let same : t.followed ≡ m.before = cc both in
    record {
      others = λ h other. m.others h other ∙ t.others h other;
      followed = m.before;
      was = subst (IsSameOrUntouched n 0 (old g)) same t.was;
      is = m.is;
    }

pub returns : goal.returns
returns c =
    IfOk-weaker c.set_last.result _ (λ _. IsTouchedAndMarked c.args.shown c.args.granule (λ f. record f { final_word = Some c.args.word }) (get nat_cmp c.args.granules.now) (get nat_cmp c.set_last.new.granules))
    (λ done marked. then_marked c.args.shown c.args.granule (λ f. record f { final_word = Some c.args.word }) (get nat_cmp c.args.granules.now) (get nat_cmp c.touch.new.granules) (get nat_cmp c.set_last.new.granules)
    c.in_ok-touch.ensures marked) c.set_last.ensures
