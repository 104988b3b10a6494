-- whether what was told of a granule can be explained
use Rattle.std.specs.Prelude.{ℕ, List, Option}
use Rattle.chi_trace.specs.Granules.{ExplainsGranule}
use Rattle.chi_trace.specs.declared.operation.Operation.{Operation}
use Rattle.chi_judge.specs.Judges.{JudgeValue}
use Rattle.chi_judge.specs.Reaches.{IsJudgeOf}
use Rattle.chi_judge.specs.declared.standing.Standing.{Standing}
use Rattle.chi_judge.specs.declared.standing.Standing.TheVariants.{Explained, Unexplained, Undecided}

-- Some order explains the operations that were told, in whichever trace they are a granule's, and leaves the final word, where one
-- was told.
abbrev pub IsExplainable : JudgeValue → Option ℕ → Type 0
IsExplainable r final_word = (trace : List Operation) (g w : ℕ) → IsJudgeOf trace g w r → (order : List ℕ) × ExplainsGranule trace g w final_word order

-- no such order does
abbrev pub IsInexplicable : JudgeValue → Option ℕ → Type 0
IsInexplicable r final_word = (trace : List Operation) (g w : ℕ) → IsJudgeOf trace g w r → (order : List ℕ) → ExplainsGranule trace g w final_word order → ⊥

abbrev pub IfExplained : Standing → Type 0 → Type 0
IfExplained Explained A = A
IfExplained Unexplained A = Unit {0}
IfExplained Undecided A = Unit {0}

abbrev pub IfUnexplained : Standing → Type 0 → Type 0
IfUnexplained Explained A = Unit {0}
IfUnexplained Unexplained A = A
IfUnexplained Undecided A = Unit {0}

abbrev pub IfUndecided : Standing → Type 0 → Type 0
IfUndecided Explained A = Unit {0}
IfUndecided Unexplained A = Unit {0}
IfUndecided Undecided A = A
