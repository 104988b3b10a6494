-- orders that finish the operations of a granule in the bits of a mask: what its other bits are is left open
use Rattle.std.specs.Prelude.{◌≡◌, ℕ, ◌+◌, ◌-◌, ◌*◌, ◌^◌, ◌<◌, ◌≤◌, ◌&&◌, Bool, List, [], ◌∷◌, length, Option, None, IfSome}
use Rattle.chi_history.specs.History.{one_if}
use Rattle.chi_trace.specs.declared.operation.Operation.{Operation}
use Rattle.chi_trace.specs.Explains.{IsInTime, at, is_answered, times_in}
use Rattle.chi_trace.specs.Granules.{Fits, next}
use Rattle.chi_search.specs.declared.states.States.{States}
use Rattle.chi_search.specs.Effects.{Agree}
use Rattle.chi_search.specs.Moves.{CanCome}
use Rattle.chi_search.specs.Positions.{Position, Settles, is_left}
use Rattle.chi_search.specs.StateSets.{Has}

-- the mask is that of a run of the word's bytes
pub record IsRun (mask : ℕ) : Type 0 where
  pub lane : ℕ
  pub len : ℕ
  pub some : 1 ≤ len
  pub room : lane + len ≤ 8
  pub number : mask ≡ (256 ^ len - 1) * 256 ^ lane

-- In the bits of the mask the operation may find v and leave u: it fits some word with these bits, and leaves the others of it.
pub record StepsTo (mask : ℕ) (op : Operation) (v u : ℕ) : Type 0 where
  pub word : ℕ
  pub below : word < 2 ^ 64
  pub finds : Agree mask v word
  pub fits : Fits op word
  pub leaves : Agree mask u (next op word)

-- Each operation may find what the one before it leaves, and the last leaves what was observed, where it was.
unfoldable pub PlayWithin : ℕ → List Operation → Option ℕ → ℕ → List ℕ → Type 0
PlayWithin mask ops final_word v [] = IfSome final_word (λ seen. Agree mask v seen)
PlayWithin mask ops final_word v (i ∷ order) = (u : ℕ) × StepsTo mask (at ops i) v u × PlayWithin mask ops final_word u order

-- The order finishes the operations that are left in the bits of the mask: each whose reply was seen stands in it once, each
-- other at most once, and none that is not left; none stands before one that ended before it started.
pub record FinishesWithin (mask : ℕ) (ops : List Operation) (left : ℕ → Bool) (v : ℕ) (final_word : Option ℕ) (order : List ℕ) : Type 0 where
  pub done : (i : ℕ) → one_if (left i && is_answered (at ops i)) ≤ times_in order i
  pub once : (i : ℕ) → times_in order i ≤ one_if (left i)
  pub times : IsInTime ops order
  pub plays : PlayWithin mask ops final_word v order

-- some order finishes what is left in these bits
abbrev pub EndsWithin : ℕ → List Operation → Option ℕ → Position → Type 0
EndsWithin mask ops final_word p = (order : List ℕ) × FinishesWithin mask ops (is_left (length ops) p) p.word final_word order

-- and none does
abbrev pub IsDeadWithin : ℕ → List Operation → Option ℕ → Position → Type 0
IsDeadWithin mask ops final_word p = EndsWithin mask ops final_word p → ⊥

abbrev pub AllDeadWithin : ℕ → List Operation → Option ℕ → States → Type 0
AllDeadWithin mask ops final_word states = (p : Position) → Has states p → IsDeadWithin mask ops final_word p

-- where an order goes on from one position, one does from the other
abbrev pub GoesOnWithin : ℕ → List Operation → Position → Position → Type 0
GoesOnWithin mask ops p q = (final_word : Option ℕ) → EndsWithin mask ops final_word p → EndsWithin mask ops final_word q

-- the operation leaves the bits of the mask of each word that it fits
abbrev pub KeepsWithin : ℕ → Operation → Type 0
KeepsWithin mask op = (w : ℕ) → w < 2 ^ 64 → Fits op w → Agree mask (next op w) w

-- an order goes on from each position to which settling an operation leads with this word
abbrev pub GoesOnBy : ℕ → List Operation → Option ℕ → Position → ℕ → ℕ → Type 0
GoesOnBy mask ops final_word p i u = (q : Position) → Settles p i q → Agree mask u q.word → EndsWithin mask ops final_word q

-- some order goes on by the operation
pub record ByTakingWithin (mask : ℕ) (ops : List Operation) (final_word : Option ℕ) (p : Position) (i : ℕ) : Type 0 where
  pub comes : CanCome ops p i
  pub leaves : ℕ
  pub steps : StepsTo mask (at ops i) p.word leaves
  pub rest : GoesOnBy mask ops final_word p i leaves

-- or without the first
abbrev pub ByDroppingWithin : ℕ → List Operation → Option ℕ → Position → Type 0
ByDroppingWithin mask ops final_word p = ((at ops p.first).reply ≡ None) × GoesOnBy mask ops final_word p p.first p.word

-- the operations before a place were tried: no order goes on by one of them
abbrev pub AreTriedWithin : ℕ → List Operation → Option ℕ → Position → ℕ → Type 0
AreTriedWithin mask ops final_word p place = (i : ℕ) → i < place → ByTakingWithin mask ops final_word p i → ⊥
