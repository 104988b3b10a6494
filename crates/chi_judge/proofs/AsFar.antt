-- up to which of the ends of the operations that are kept they are explained, and which operations ended by then
use Rattle.std.proofs.Common.{◌≡◌, ℕ, ◌+◌, ◌-◌, ◌<◌, ◌≤◌, ◌⊎◌, inl, inr, true, false, List, ◌∷◌, [], ◌++◌, All, filter, Option, Some, None, IfSome, length, refl, sym, subst, ◌∙◌, ⊎_elim, arith, true≢false}
use Rattle.std.specs.Option.{SomeIff}
use Rattle.std.proofs.lemmas.Bool.{cases_lt}
use Rattle.std.proofs.lemmas.List.{get_or_default}
use Rattle.std.proofs.lemmas.List.Elements.{All-append, All-nil, All-weaker}
use Rattle.std.proofs.lemmas.List.Sorted.{All-permutation, IsPermutation-sym}
use Rattle.chi_trace.specs.declared.operation.Operation.{Operation}
use Rattle.chi_trace.specs.AtPlaces.{is_in}
use Rattle.chi_trace.specs.Explains.{at, is_answered, nothing}
use Rattle.chi_judge.specs.Explained.{AreAnsweredBeside, AreAnsweredBy, EndsBy, IsAsFar, IsAsFarUnless}
use Rattle.chi_judge.specs.Judges.{EndedBefore, JudgeValue, Keeps}
use Rattle.chi_judge.specs.Reaches.{IsExplained, IsJudgeOf}
use Rattle.chi_search.specs.Looks.{LookedAtLeast, Search}

module _ (trace : List Operation) (g w : ℕ) (r : JudgeValue) (is : IsJudgeOf trace g w r) (goes : r.is_stopped ≡ false) (found : Option ℕ) (count place : ℕ)
    (others : (i : ℕ) → count ≤ i → i < length r.kept → is_answered (at r.kept i) ≡ false)
    (before : (op : Operation) → op.end < r.since → EndsBy found op) (by : (i : ℕ) → i < place → i < length r.kept → EndsBy found (at r.kept i)) where
  abbrev k : Keeps (w ∷ []) is.told is.now r
  k = is.keeps

  -- what holds of those that had ended before, and of each that is kept, holds of each operation of the granule
  each_own : (P : Operation → Type 0) → ((op : Operation) → op.end < r.since → P op) → ((i : ℕ) → i < length r.kept → P (at r.kept i)) → All P (filter (is_in g) trace)
  each_own P early late = All-permutation P is.told (filter (is_in g) trace) (IsPermutation-sym (filter (is_in g) trace) is.told is.moved)
      (subst (All P) (sym k.parts)
      (All-append P k.earlier (r.kept ++ k.later) (All-weaker (EndedBefore r.since) P (λ op e. early op e.1) k.earlier k.ended)
      (All-append P r.kept k.later (λ i d below. subst P (sym (get_or_default r.kept i d nothing below)) (late i below))
      (subst (All P) (sym (k.goes_on goes)) (All-nil P)))))

  pub all_answered : place ≡ count → AreAnsweredBy (filter (is_in g) trace) found
  all_answered whole = each_own (λ op. is_answered op ≡ true → EndsBy found op) (λ op early answered. before op early)
      (λ i below answered. ⊎_elim (λ less. by i (omega (arith, less, whole)) below) (λ more. absurd (true≢false (sym answered ∙ others i more below))) (cases_lt i count))

  pub answered_beside : place < length r.kept → AreAnsweredBeside (filter (is_in g) trace) found (at r.kept place).end
  answered_beside within = each_own (λ op. is_answered op ≡ true → EndsBy found op ⊎ ((at r.kept place).end ≤ op.end)) (λ op early answered. inl (before op early))
      (λ i below answered. ⊎_elim (λ less. inl (by i less below)) (λ more. inr (k.next.sorted.0 place i more below)) (cases_lt i place))

  -- so they are explained as far as was found
  pub as_far : {P B : Type 0} (looked : Search → P → ℕ → Type 0) (old new : P) (budget : ℕ) → place ≤ count → count ≤ length r.kept
      → (place < count → (IsExplained (at r.kept place).end trace g w → ⊥) ⊎ (B × LookedAtLeast looked old new budget)) → IsAsFar looked old new budget trace g w found
  as_far looked old new budget within bound unexplained = ⊎_elim
      (λ less. inr ((at r.kept place).end, answered_beside (omega (arith, less, bound)), ⊎_elim inl (λ spent. inr spent.1) (unexplained less)))
      (λ more. inl (all_answered (omega (arith, more, within))))
      (cases_lt place count)

-- the time before those that are kept, where there is one
pub before_since : (found : Option ℕ) (since : ℕ) → SomeIff found (1 ≤ since) (since - 1) → (op : Operation) → op.end < since → EndsBy found op
before_since None since is op early = absurd (is (omega (arith, early)))
before_since (Some time) since is op early = (time, refl, omega (arith, is.1, early))

pub so_before_since : (found : Option ℕ) (since : ℕ) (Q : ℕ → Type 0) → SomeIff found (1 ≤ since) (since - 1) → ((time : ℕ) → time + 1 ≡ since → Q time) → IfSome found Q
so_before_since None since Q is each = tt
so_before_since (Some time) since Q is each = each time (omega (arith, is.0, is.1))

-- where what was spent says that something else was, it is as far by that
pub as_far_by : (Spent More : Type 0) → (Spent → More) → (trace : List Operation) (g w : ℕ) (found : Option ℕ) → IsAsFarUnless Spent trace g w found → IsAsFarUnless More trace g w found
as_far_by Spent More spent trace g w found (inl all) = inl all
as_far_by Spent More spent trace g w found (inr (next, beside, inl none)) = inr (next, beside, inl none)
as_far_by Spent More spent trace g w found (inr (next, beside, inr whole)) = inr (next, beside, inr (spent whole))
