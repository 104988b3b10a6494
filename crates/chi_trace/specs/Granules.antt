-- one granule's operations, by the word that each finds and leaves
use Rattle.std.specs.Prelude.{◌≡◌, ℕ, ◌/◌, ◌^◌, ◌<◌, ◌≤◌, ◌==◌, ◌&&◌, Bool, List, [], ◌∷◌, Option, IfSome}
use Rattle.chi_lanes.specs.After.{after, answer}
use Rattle.chi_lanes.specs.Memory.{Memory, granule_start, word_at}
use Rattle.chi_history.specs.History.{one_if, opening_memory}
use Rattle.chi_history.specs.Openings.{opened}
use Rattle.chi_trace.specs.declared.operation.Operation.{Operation}
use Rattle.chi_trace.specs.Explains.{IsInTime, at, is_answered, is_place, times_in}

-- the number of the operation's granule, counted from address 0
abbrev pub granule_of : Operation → ℕ
granule_of op = op.access.addr / 8

-- the memory with this word in the granule that starts here, and with 0 elsewhere
abbrev pub with_word : ℕ → ℕ → Memory
with_word start w = opening_memory (opened (record { base = start; granules = 1 }) 1 (w ∷ []))

-- the word that the operation leaves of a word
unfoldable pub next : Operation → ℕ → ℕ
next op w = word_at (after op.access (with_word (granule_start op.access.addr) w)) (granule_start op.access.addr)

-- its reply, where it was seen, is the one that a word gives
unfoldable pub Fits : Operation → ℕ → Type 0
Fits op w = IfSome op.reply (λ reply. reply ≡ answer op.access (with_word (granule_start op.access.addr) w))

-- each operation fits the word that those before it leave
unfoldable pub Play : List Operation → ℕ → List ℕ → Type 0
Play trace w [] = Unit {0}
Play trace w (i ∷ order) = Fits (at trace i) w × (next (at trace i) w < 2 ^ 64) × Play trace (next (at trace i) w) order

-- the word after the operations
unfoldable pub last_word : List Operation → ℕ → List ℕ → ℕ
last_word trace w [] = w
last_word trace w (i ∷ order) = last_word trace (next (at trace i) w) order

-- The order finishes the operations of a trace that are left, from a word on: each whose reply was seen stands in it once,
-- each other at most once, and none that is not left; none stands before one that ended before it started; each fits; and
-- the last word is the one that was observed, where one was.
pub record Finishes (trace : List Operation) (left : ℕ → Bool) (w : ℕ) (final_word : Option ℕ) (order : List ℕ) : Type 0 where
  pub done : (i : ℕ) → one_if (left i && is_answered (at trace i)) ≤ times_in order i
  pub once : (i : ℕ) → times_in order i ≤ one_if (left i)
  pub times : IsInTime trace order
  pub plays : Play trace w order
  pub ending : IfSome final_word (λ v. last_word trace w order ≡ v)

-- the operations of a granule
abbrev pub is_of : List Operation → ℕ → ℕ → Bool
is_of trace g i = is_place trace i && (granule_of (at trace i) == g)

-- the order explains the operations of one granule, from its word at the opening on
abbrev pub ExplainsGranule : List Operation → ℕ → ℕ → Option ℕ → List ℕ → Type 0
ExplainsGranule trace g w final_word order = Finishes trace (is_of trace g) w final_word order
