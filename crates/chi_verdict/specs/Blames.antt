-- where a trace stops being explained
use Rattle.std.specs.Prelude.{◌≡◌, ℕ, ◌+◌, ◌≤◌, List, [], ◌↔◌}
use Rattle.std.specs.List.{Contains}
use Rattle.chi_search.specs.Found.{IfWords}
use Rattle.chi_search.specs.Looks.{LookedMore, Search}
use Rattle.chi_judge.specs.Reaches.{IsStop, MissesNone}
use Rattle.chi_verdict.specs.declared.first.Blame.{Blame}
use Rattle.chi_verdict.specs.declared.first.First.{First}
use Rattle.chi_verdict.specs.declared.first.First.TheVariants.{Never, At, Undecided}
use Rattle.chi_trace.specs.Traces.{CanHold, IsLegal, TraceValue, trace_at}
use Rattle.chi_trace.specs.Words.{word_or_zero}

-- Up to a time no order explains the trace, not even the operations of this granule. Up to the time before this order does; before
-- time 0 there is none. Of the granule is said where its operations stop being explained, and the words are those that it can hold
-- up to the time before.
pub record IsBlame (t : TraceValue) (most : ℕ) (blame : Blame) : Type 0 where
  pub before : (earlier : ℕ) → earlier + 1 ≡ blame.stop.time → IsLegal (trace_at earlier t) blame.order.items
  pub no_order : blame.stop.time ≡ 0 → blame.order.items ≡ []
  pub after : (order : List ℕ) → IsLegal (trace_at blame.stop.time t) order → ⊥
  pub stop : IsStop t.operations blame.granule (word_or_zero t.opening blame.granule) most blame.stop
  pub words : (earlier : ℕ) → earlier + 1 ≡ blame.stop.time
      → IfWords blame.stop.words (λ each. (v : ℕ) → Contains each v ↔ CanHold (trace_at earlier t) blame.granule v)

-- A, where the trace is explained at each time
abbrev pub IfNever : First → Type 0 → Type 0
IfNever Never A = A
IfNever (At blame) A = Unit {0}
IfNever (Undecided granule states) A = Unit {0}

-- P of where it is not
abbrev pub IfAt : First → (Blame → Type 0) → Type 0
IfAt Never P = Unit {0}
IfAt (At blame) P = P blame
IfAt (Undecided granule states) P = Unit {0}

-- P of how many states of a granule were looked at, where that did not decide it
abbrev pub IfNotFound : First → (ℕ → Type 0) → Type 0
IfNotFound Never P = Unit {0}
IfNotFound (At blame) P = Unit {0}
IfNotFound (Undecided granule states) P = P states

-- So many states were looked at, no fewer than are told where nothing was decided. Of a granule that is blamed nothing is missed
-- unless so many were.
pub record LookedForFirst {P : Type 0} (looked : Search → P → ℕ → Type 0) (old new : P) (budget : ℕ) (t : TraceValue) (first : First) : Type 0 where
  pub count : ℕ
  pub more : LookedMore looked old new count
  pub undecided : IfNotFound first (λ states. states ≤ count)
  pub all : IfAt first (λ blame. MissesNone looked old new budget t.operations blame.granule (word_or_zero t.opening blame.granule) blame.stop)
