-- what a verdict says
use Rattle.std.specs.Prelude.{ℕ, ◌≤◌, List}
use Rattle.chi_search.specs.Looks.{LookedMore, Search}
use Rattle.chi_verdict.specs.declared.verdict.Verdict.{Verdict}
use Rattle.chi_verdict.specs.declared.verdict.Verdict.TheVariants.{Explained, Unexplained, Undecided}

-- P of the order, where it explains the trace
abbrev pub IfExplained : Verdict → (List ℕ → Type 0) → Type 0
IfExplained (Explained order) P = P order.items
IfExplained (Unexplained granule) P = Unit {0}
IfExplained (Undecided granule states) P = Unit {0}

-- P of the granule, where its operations cannot be explained
abbrev pub IfUnexplained : Verdict → (ℕ → Type 0) → Type 0
IfUnexplained (Explained order) P = Unit {0}
IfUnexplained (Unexplained granule) P = P granule
IfUnexplained (Undecided granule states) P = Unit {0}

-- P of how many states of a granule were looked at, where that did not decide it
abbrev pub IfUndecided : Verdict → (ℕ → Type 0) → Type 0
IfUndecided (Explained order) P = Unit {0}
IfUndecided (Unexplained granule) P = Unit {0}
IfUndecided (Undecided granule states) P = P states

-- so many states were looked at, and no fewer than the verdict tells where it decides nothing
pub record LookedForVerdict {P : Type 0} (looked : Search → P → ℕ → Type 0) (old new : P) (verdict : Verdict) : Type 0 where
  pub count : ℕ
  pub more : LookedMore looked old new count
  pub undecided : IfUndecided verdict (λ states. states ≤ count)
