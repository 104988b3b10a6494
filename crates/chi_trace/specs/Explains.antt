-- which orders of the operations of a trace explain what was observed
use Rattle.std.specs.Prelude.{◌≡◌, ℕ, ◌+◌, ◌*◌, ◌^◌, ◌≤◌, ◌==◌, nat_lt, Bool, true, false, ◌&&◌, List, [], ◌∷◌, length, slice_index_or, All, Option, Some, None, IfSome}
use Rattle.chi_fields.specs.Access.{IsLawful}
use Rattle.chi_fields.specs.declared.kind.Kind.TheVariants.{Read}
use Rattle.chi_lanes.specs.After.{after, answer}
use Rattle.chi_lanes.specs.Memory.{Memory, word_at}
use Rattle.chi_history.specs.History.{one_if}
use Rattle.chi_trace.specs.declared.operation.Operation.{Operation}

-- what stands at a place past the end of a trace
abbrev pub nothing : Operation
nothing = record {
  number = 0;
  src = 0;
  txn = 0;
  access = record { kind = Read; addr = 0; len = 0; endian = false; enables = 0; lanes = [] };
  start = 0;
  end = 0;
  reply = None;
}

-- the operation at a place of the trace, the places counted from 0
abbrev pub at : List Operation → ℕ → Operation
at trace i = slice_index_or trace i nothing

-- the place is one of the trace
abbrev pub is_place : List Operation → ℕ → Bool
is_place trace i = nat_lt i (length trace)

-- its reply was seen
abbrev pub is_answered : Operation → Bool
is_answered op = is_seen op.reply
  where
    is_seen : {R : Type 0} → Option R → Bool
    is_seen None = false
    is_seen (Some reply) = true

-- An order is a list of places of the trace. How often a place stands in it.
unfoldable pub times_in : List ℕ → ℕ → ℕ
times_in [] i = 0
times_in (j ∷ order) i = one_if (j == i) + times_in order i

-- no operation stands before one that ended before it started
unfoldable pub IsInTime : List Operation → List ℕ → Type 0
IsInTime trace [] = Unit {0}
IsInTime trace (i ∷ order) = All (λ j. (at trace i).start ≤ (at trace j).end) order × IsInTime trace order

-- each reply that was seen is the answer of the memory that those before it leave
unfoldable pub Answers : List Operation → Memory → List ℕ → Type 0
Answers trace m [] = Unit {0}
Answers trace m (i ∷ order) =
    IfSome (at trace i).reply (λ reply. reply ≡ answer (at trace i).access m) × Answers trace (after (at trace i).access m) order

-- the memory after the operations in this order
unfoldable pub memory_after : List Operation → Memory → List ℕ → Memory
memory_after trace m [] = m
memory_after trace m (i ∷ order) = memory_after trace (after (at trace i).access m) order

-- the word of the granule with this number, counted from address 0
abbrev pub word_of : Memory → ℕ → ℕ
word_of m g = word_at m (8 * g)

-- The order explains the trace: each operation whose reply was seen stands in it once, and each other at most once, since
-- it may have taken effect or not; none stands before one that ended before it started; each reply that was seen is the
-- memory's answer; and the memory is left with the words that were observed at the end.
pub record Explains (opening : Memory) (final_words : ℕ → Option ℕ) (trace : List Operation) (order : List ℕ) : Type 0 where
  pub done : (i : ℕ) → one_if (is_place trace i && is_answered (at trace i)) ≤ times_in order i
  pub once : (i : ℕ) → times_in order i ≤ one_if (is_place trace i)
  pub times : IsInTime trace order
  pub answers : Answers trace opening order
  pub ending : (g : ℕ) → IfSome (final_words g) (λ w. word_of (memory_after trace opening order) g ≡ w)

-- no words were observed at the end
abbrev pub unobserved : ℕ → Option ℕ
unobserved g = None

-- what is always true of an operation of a trace: its access is one, within 2^52 bytes, and it ends no earlier than it starts
pub record IsOperation (op : Operation) : Type 0 where
  pub lawful : IsLawful op.access
  pub within : op.access.addr + op.access.len ≤ 2 ^ 52
  pub lasting : op.start ≤ op.end

-- and of the trace: its operations stand in the order of their starts
unfoldable pub IsTrace : List Operation → Type 0
IsTrace [] = Unit {0}
IsTrace (op ∷ trace) = IsOperation op × All (λ later. op.start ≤ later.start) trace × IsTrace trace
