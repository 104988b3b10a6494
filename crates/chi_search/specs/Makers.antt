-- what the operations that are left can leave, where another one must find it, or the end must have it
use Rattle.std.specs.Prelude.{◌≡◌, ℕ, ◌^◌, ◌<◌, ◌≤◌, ◌⊎◌, Bool, true, List, [], ◌∷◌, All, length, Option, None, Some, IfSome}
use Rattle.std.specs.Int.{bit_at}
use Rattle.chi_trace.specs.declared.operation.Operation.{Operation}
use Rattle.chi_trace.specs.Explains.{at}
use Rattle.chi_trace.specs.Granules.{Fits, next}
use Rattle.chi_search.specs.declared.making.Later.{Later}
use Rattle.chi_search.specs.declared.wanted.Wanted.{Wanted}
use Rattle.chi_search.specs.Effects.{Agree, IsInOperand}
use Rattle.chi_search.specs.Positions.{Position, is_left}
use Rattle.chi_search.specs.Within.{StepsTo}

-- the bits of one mask are bits of the other
abbrev pub IsPart : ℕ → ℕ → Type 0
IsPart bits mask = (k : ℕ) → bit_at bits k ≡ 1 → bit_at mask k ≡ 1

-- the operation may stand before another one, or before the end where there is no other
abbrev pub MayPrecede : List Operation → ℕ → Option ℕ → Type 0
MayPrecede ops i None = Unit {0}
MayPrecede ops i (Some other) = (i ≡ other → ⊥) × ((at ops i).start ≤ (at ops other).end)

-- the operation may stand before each of those that come later
abbrev pub MayPrecedeEach : List Operation → ℕ → Later → Type 0
MayPrecedeEach ops i later = MayPrecede ops i later.next × MayPrecede ops i later.second × MayPrecede ops i later.third × MayPrecede ops i later.fourth

-- they are operations of the list
abbrev pub ArePlaces : List Operation → Later → Type 0
ArePlaces ops later =
    IfSome later.next (λ i. i < length ops) × IfSome later.second (λ i. i < length ops) × IfSome later.third (λ i. i < length ops)
    × IfSome later.fourth (λ i. i < length ops)

-- what comes later than an operation that comes before those
abbrev pub later_than : ℕ → Later → Later
later_than i later = record { next = Some i; second = later.next; third = later.second; fourth = later.third }

-- the operation leaves a word of which this is true only where it finds one
abbrev pub MakesNone : Operation → (ℕ → Type 0) → Type 0
MakesNone op P = (w : ℕ) → w < 2 ^ 64 → Fits op w → P (next op w) → P w

-- where the operation leaves some bits of a word, it finds some of one of two others
abbrev pub Wants : Operation → ℕ → ℕ → Wanted → Type 0
Wants op bits word wanted =
    (w : ℕ) → w < 2 ^ 64 → Fits op w → Agree bits word (next op w) → Agree wanted.bits wanted.word w ⊎ Agree wanted.bits wanted.other w

-- in the operand's bits of the mask the operation leaves those of a word where it finds the other one
abbrev pub LeavesOperand : ℕ → Operation → ℕ → ℕ → Type 0
LeavesOperand mask op found word = (k : ℕ) → IsInOperand op.access k → bit_at mask k ≡ 1 → bit_at (next op found) k ≡ bit_at word k

-- A run is a list of operations that come one after the other, the last one first. They are left, and each may stand before
-- those that come after it.
unfoldable pub IsRunOf : List Operation → (ℕ → Bool) → List ℕ → Type 0
IsRunOf ops left [] = Unit {0}
IsRunOf ops left (i ∷ run) = (left i ≡ true) × All (λ j. MayPrecede ops j (Some i)) run × IsRunOf ops left run

-- in the bits of the mask the run leads from v to u
unfoldable pub LeadsTo : ℕ → List Operation → ℕ → List ℕ → ℕ → Type 0
LeadsTo mask ops v [] u = Agree mask v u
LeadsTo mask ops v (i ∷ run) u = (t : ℕ) × LeadsTo mask ops v run t × StepsTo mask (at ops i) t u

-- no run of operations that may stand before those that come later leads to these bits of the word
abbrev pub IsUnmade : ℕ → List Operation → Position → Later → ℕ → ℕ → Type 0
IsUnmade mask ops p later word bits =
    (run : List ℕ) → (u : ℕ) → IsRunOf ops (is_left (length ops) p) run → All (λ i. MayPrecedeEach ops i later) run → LeadsTo mask ops p.word run u
    → Agree bits word u
    → ⊥

-- the operation leaves these bits of the word only where it finds what no run before it leads to
pub record LacksRun (mask : ℕ) (ops : List Operation) (p : Position) (later : Later) (i word bits : ℕ) : Type 0 where
  pub wanted : Wanted
  pub within : IsPart wanted.bits mask
  pub wants : Wants (at ops i) bits word wanted
  pub unmade : IsUnmade mask ops p (later_than i later) wanted.word wanted.bits
  pub other : IsUnmade mask ops p (later_than i later) wanted.other wanted.bits

-- If the operation is left, and may stand before those that come later, it does not make these bits of the word: it leaves them
-- only where it found them, or lacks a run.
abbrev pub CannotMake : ℕ → List Operation → Position → Later → ℕ → ℕ → ℕ → Type 0
CannotMake mask ops p later word bits i =
    is_left (length ops) p i ≡ true → MayPrecedeEach ops i later → MakesNone (at ops i) (Agree bits word) ⊎ LacksRun mask ops p later i word bits

-- some of these bits are out of reach: no run leads to those of the word
pub record IsOutOfReach (mask : ℕ) (ops : List Operation) (p : Position) (later : Later) (word bits : ℕ) : Type 0 where
  pub part : ℕ
  pub within : IsPart part bits
  pub unmade : IsUnmade mask ops p later word part
