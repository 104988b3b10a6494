-- a granule that was watched before, and one that was not
use Rattle.std.proofs.Common.{◌≡◌, rules, ℕ, Option, Some, None, true, false, is_some, refl, sym, subst, ◌∙◌, true≢false}
use Rattle.std.specs.BTreeMap.{get}
use Rattle.std.specs.Ordering.{nat_cmp}
use Rattle.chi_watch.specs.Changes.{IsSameOrUntouched, IsTouched, IsUntouched}
use Rattle.chi_watch.specs.Followed.{FollowedValue}
use Rattle.chi_watch.proofs.granules.touch.Goals as goal

is_touched : (n : ℕ) (granules : ℕ → Option FollowedValue) (g word : ℕ) (old : Option FollowedValue) → granules g ≡ old → is_some old ≡ true → IsTouched n granules granules g word
is_touched n granules g word None here some = absurd (true≢false (sym some))
is_touched n granules g word (Some f) here some = record {
  others = λ h other. refl;
  followed = f;
  is = here;
  was = subst (λ (x : Option FollowedValue). IsSameOrUntouched n word x f) (sym here) refl;
}

was_none : (n word : ℕ) (old : Option FollowedValue) (new : FollowedValue) → is_some old ≡ false → IsUntouched n word new → IsSameOrUntouched n word old new
was_none n word None new none is = is
was_none n word (Some old) new none is = absurd (true≢false none)

pub returns-then-contains_key : goal.returns-then-contains_key
returns-then-contains_key c = is_touched c.args.shown (get nat_cmp c.args.granules.now) c.args.granule c.args.word (get nat_cmp c.args.granules.now c.args.granule) refl (sym c.contains_key.ensures ∙ c.if-contains_key.true)

pub returns : goal.returns
returns c =
    let same : c.in_ok-kept.kept ≡ c.in_ok-untouched.field-0 = c.in_ok-kept.ensures ∙ c.in_ok-followed.ensures.ok in
    record {
      others = search rules;
      followed = c.in_ok-kept.kept;
      is = search rules;
      was = was_none c.args.shown c.args.word (get nat_cmp c.args.granules.now c.args.granule) c.in_ok-kept.kept (sym c.contains_key.ensures ∙ c.if-contains_key.false)
          (subst (IsUntouched c.args.shown c.args.word) (sym same) c.in_ok-untouched.ensures.untouched);
    }
