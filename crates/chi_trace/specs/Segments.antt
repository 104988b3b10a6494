-- traces in pieces: what comes after a quiet time
use Rattle.std.specs.Prelude.{ℕ, ◌<◌, ◌≤◌, List, ◌++◌, All, Some, ◌↔◌}
use Rattle.chi_trace.specs.declared.operation.Operation.{Operation}
use Rattle.chi_trace.specs.Explains.{is_place}
use Rattle.chi_trace.specs.Granules.{Finishes}

-- some order of all these operations leads from one word of their granule to another
abbrev pub Leads : List Operation → ℕ → ℕ → Type 0
Leads trace w v = (order : List ℕ) × Finishes trace (is_place trace) w (Some v) order

-- each ends no earlier than it starts
abbrev pub AreLasting : List Operation → Type 0
AreLasting trace = All (λ op. op.start ≤ op.end) trace

-- each of the earlier ended before any of the later started
abbrev pub AreApart : List Operation → List Operation → Type 0
AreApart earlier later = All (λ op. All (λ other. op.end < other.start) later) earlier

-- Across a time at which none was open the operations of a granule lead from a word to another exactly where the earlier
-- lead to some word, and the later on from it.
abbrev pub QuietTimesDivide : Type 0
QuietTimesDivide = (earlier later : List Operation) (w v : ℕ) → AreApart earlier later → AreLasting earlier → AreLasting later
    → Leads (earlier ++ later) w v ↔ ((u : ℕ) × Leads earlier w u × Leads later u v)
