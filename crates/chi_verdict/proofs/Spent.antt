-- the states that were looked at in one search after another
use Rattle.std.proofs.Common.{◌≡◌, ℕ, ◌+◌, ◌-◌, ◌≤◌, ◌⊎◌, inl, inr, Option, Some, refl, sym, ◌∙◌, arith}
use Rattle.chi_search.specs.Looks.{LookedMore, LookedSome, Search}
use Rattle.chi_search.proofs.Looking.{more_after}
use Rattle.chi_judge.proofs.More.{misses_none_after}
use Rattle.chi_trace.specs.Traces.{TraceValue}
use Rattle.chi_trace.specs.Words.{word_or_zero}
use Rattle.chi_verdict.specs.declared.first.First.{First}
use Rattle.chi_verdict.specs.declared.first.First.TheVariants.{Never, At, Undecided}
use Rattle.chi_verdict.specs.Blames.{LookedForFirst}

-- no fewer than the budget where a granule was not decided
abbrev pub LookedFor : {P : Type 0} → (Search → P → ℕ → Type 0) → P → P → ℕ → Option ℕ → Type 0
LookedFor looked old new budget undecided = (k : ℕ) × LookedMore looked old new k × ((n : ℕ) → undecided ≡ Some n → budget ≤ k)

-- and those of one granule more, which was decided or took the whole budget
pub looked_on : {P : Type 0} (looked : Search → P → ℕ → Type 0) (old middle new : P) (budget left : ℕ) (undecided after : Option ℕ)
    → LookedFor looked old middle budget undecided → LookedMore looked middle new (budget - left) → (after ≡ undecided) ⊎ (left ≡ 0)
    → LookedFor looked old new budget after
looked_on looked old middle new budget left undecided after before then how = (
  before.0 + (budget - left),
  more_after looked old middle new before.0 (budget - left) (before.0 + (budget - left)) refl before.1 then,
  λ n is. elim how [
    | inl same ↦ let whole = before.2 n (sym same ∙ is) in omega (arith, whole)
    | inr none ↦ omega (arith, none)
  ],
)

-- the first time is found after some states were looked at
pub first_after : {P : Type 0} (looked : Search → P → ℕ → Type 0) (old middle new : P) (budget : ℕ) (t : TraceValue) (first : First)
    → LookedSome looked old middle → LookedForFirst looked middle new budget t first → LookedForFirst looked old new budget t first
first_after looked old middle new budget t Never before is = record {
  count = before.0 + is.count;
  more = more_after looked old middle new before.0 is.count (before.0 + is.count) refl before.1 is.more;
  undecided = tt;
  all = tt;
}
first_after looked old middle new budget t (At blame) before is = record {
  count = before.0 + is.count;
  more = more_after looked old middle new before.0 is.count (before.0 + is.count) refl before.1 is.more;
  undecided = tt;
  all = misses_none_after looked old middle new budget t.operations blame.granule (word_or_zero t.opening blame.granule) blame.stop before is.all;
}
first_after looked old middle new budget t (Undecided granule states) before is = record {
  count = before.0 + is.count;
  more = more_after looked old middle new before.0 is.count (before.0 + is.count) refl before.1 is.more;
  undecided = let under = is.undecided in omega (arith, under);
  all = tt;
}
