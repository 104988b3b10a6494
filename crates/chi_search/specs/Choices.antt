-- what is said of each choice
use Rattle.std.specs.Prelude.{ℕ, Option}
use Rattle.chi_search.specs.declared.choice.Choice.{Choice}
use Rattle.chi_search.specs.declared.choice.Choice.TheVariants.{Ended, Step, Dead}

abbrev pub IfEnded : Choice → Type 0 → Type 0
IfEnded Ended A = A
IfEnded (Step op tried is_only) A = Unit {0}
IfEnded Dead A = Unit {0}

abbrev pub IfStep : Choice → (Option ℕ → Type 0) → Type 0
IfStep Ended P = Unit {0}
IfStep (Step op tried is_only) P = P op
IfStep Dead P = Unit {0}

abbrev pub IfTried : Choice → (ℕ → Type 0) → Type 0
IfTried Ended P = Unit {0}
IfTried (Step op tried is_only) P = P tried
IfTried Dead P = Unit {0}

abbrev pub IfDead : Choice → Type 0 → Type 0
IfDead Ended A = Unit {0}
IfDead (Step op tried is_only) A = Unit {0}
IfDead Dead A = A
