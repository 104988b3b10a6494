-- what the steps of a search back in time come to
use Rattle.std.specs.Prelude.{◌≡◌, ℕ}
use Rattle.chi_verdict.specs.declared.first.Back.{Back}
use Rattle.chi_verdict.specs.declared.first.Back.TheVariants.{Answer, Earlier}
use Rattle.chi_verdict.specs.declared.first.Failing.{Failing}
use Rattle.chi_verdict.specs.declared.first.First.{First}
use Rattle.chi_verdict.specs.Blames.{IfAt, IfNever, IfNotFound, IsBlame}
use Rattle.chi_trace.specs.Traces.{TraceValue}

-- what is found is so, of a trace that is not explained
pub record IsFirst (t : TraceValue) (most budget : ℕ) (first : First) : Type 0 where
  pub never : IfNever first ⊥
  pub blame : IfAt first (IsBlame t most)
  pub undecided : IfNotFound first (λ states. states ≡ budget)

-- P of the answer, or of the granule and its time, that a search back in time comes to
abbrev pub IfAnswer : Back → (First → Type 0) → Type 0
IfAnswer (Answer first) P = P first
IfAnswer (Earlier failing) P = Unit {0}

abbrev pub IfEarlier : Back → (Failing → Type 0) → Type 0
IfEarlier (Answer first) P = Unit {0}
IfEarlier (Earlier failing) P = P failing
