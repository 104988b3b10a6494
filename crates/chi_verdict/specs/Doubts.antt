-- what is said of a granule that was not decided
use Rattle.std.specs.Prelude.{◌≡◌, ℕ, IfSome}
use Rattle.chi_judge.specs.Explained.{IsAsFar as IsExplainedAsFar}
use Rattle.chi_judge.specs.Reaches.{IsExplained}
use Rattle.chi_trace.specs.Traces.{TraceValue}
use Rattle.chi_trace.specs.Words.{word_or_zero}
use Rattle.chi_verdict.specs.declared.doubt.Doubt.{Doubt}
use Rattle.chi_verdict.specs.Open.{most_open}
use Rattle.chi_search.specs.Looks.{Search}

-- some order explains the granule's operations up to a time, from its word at the opening on
abbrev pub IsExplainedBy : TraceValue → ℕ → ℕ → Type 0
IsExplainedBy t g time = IsExplained time t.operations g (word_or_zero t.opening g)

-- the granule is explained up to the time, where there is one, and so many of its operations were open at most
pub record IsDoubt (t : TraceValue) (doubt : Doubt) : Type 0 where
  pub explained : IfSome doubt.explained (IsExplainedBy t doubt.granule)
  pub most_open : doubt.most_open ≡ most_open t.operations doubt.granule

-- it is explained as far as was found, each time within the budget
abbrev pub IsAsFar : {P : Type 0} → (Search → P → ℕ → Type 0) → P → P → ℕ → TraceValue → Doubt → Type 0
IsAsFar looked old new budget t doubt = IsExplainedAsFar looked old new budget t.operations doubt.granule (word_or_zero t.opening doubt.granule) doubt.explained
