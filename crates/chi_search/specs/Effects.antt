-- what is known of operations before any order of them is searched
use Rattle.std.specs.Prelude.{◌≡◌, ℕ, ◌+◌, ◌/◌, ◌^◌, ◌<◌, ◌≤◌, ◌⊎◌, true, false, List, length, slice_index_or}
use Rattle.std.specs.Int.{bit_at}
use Rattle.chi_fields.specs.Access.{Access}
use Rattle.chi_fields.specs.declared.kind.Kind.{Kind}
use Rattle.chi_fields.specs.declared.kind.Kind.TheVariants.{Load, Read, Store, Swap, Write}
use Rattle.chi_fields.specs.declared.kind.Op.{Op}
use Rattle.chi_fields.specs.declared.kind.Op.TheVariants.{Add, Clr, Eor, Set, SMax, SMin, UMax, UMin}
use Rattle.chi_lanes.specs.Memory.{granule_start}
use Rattle.chi_trace.specs.declared.operation.Operation.{Operation}
use Rattle.chi_trace.specs.Explains.{at}
use Rattle.chi_trace.specs.Granules.{Fits, next}
use Rattle.chi_search.specs.declared.effect.Effect.{Effect}

-- the words have the same bits where those of the mask are 1
abbrev pub Agree : ℕ → ℕ → ℕ → Type 0
Agree mask v w = (k : ℕ) → bit_at mask k ≡ 1 → bit_at v k ≡ bit_at w k

-- and where those of the mask are 0
abbrev pub AgreeOutside : ℕ → ℕ → ℕ → Type 0
AgreeOutside mask v w = (k : ℕ) → k < 64 → bit_at mask k ≡ 0 → bit_at v k ≡ bit_at w k

-- bit k of the granule's word is one of a byte of the operand
abbrev pub IsInOperand : Access → ℕ → Type 0
IsInOperand o k = (o.addr ≤ granule_start o.addr + k / 8) × (granule_start o.addr + k / 8 < o.addr + o.len)

-- wherever the operation fits it finds these bits, changes no others than these, and leaves these, or, if it may stay, the word that it found
pub record HasEffect (op : Operation) (e : Effect) : Type 0 where
  pub finds : (w : ℕ) → w < 2 ^ 64 → Fits op w → Agree e.found_mask e.found w
  pub keeps : (w : ℕ) → w < 2 ^ 64 → Fits op w → AgreeOutside e.changed_mask (next op w) w
  pub leaves : (w : ℕ) → w < 2 ^ 64 → Fits op w → Agree e.left_mask e.left (next op w) ⊎ ((e.may_stay ≡ true) × (next op w ≡ w))

-- each bit stays, or is written whatever it was
abbrev pub IsBlind : Kind → Type 0
IsBlind Read = Unit {0}
IsBlind Write = Unit {0}
IsBlind Swap = Unit {0}
IsBlind (Store Clr) = Unit {0}
IsBlind (Store Set) = Unit {0}
IsBlind (Load Clr) = Unit {0}
IsBlind (Load Set) = Unit {0}
IsBlind _ = ⊥

-- each bit that it leaves depends on that bit alone: it is blind, or makes the exclusive or
abbrev pub IsBitwise : Kind → Type 0
IsBitwise (Store Eor) = Unit {0}
IsBitwise (Load Eor) = Unit {0}
IsBitwise kind = IsBlind kind

-- it adds
abbrev pub IsSum : Kind → Type 0
IsSum (Store Add) = Unit {0}
IsSum (Load Add) = Unit {0}
IsSum _ = ⊥

-- it makes the exclusive or
abbrev pub IsEor : Kind → Type 0
IsEor (Store Eor) = Unit {0}
IsEor (Load Eor) = Unit {0}
IsEor _ = ⊥

-- the greater or the lesser of two numbers is kept
abbrev pub IsPickOp : Op → Type 0
IsPickOp SMax = Unit {0}
IsPickOp SMin = Unit {0}
IsPickOp UMax = Unit {0}
IsPickOp UMin = Unit {0}
IsPickOp _ = ⊥

-- what was sent is written, or each byte stays
abbrev pub IsPick : Kind → Type 0
IsPick (Store op) = IsPickOp op
IsPick (Load op) = IsPickOp op
IsPick _ = ⊥

-- what stands at a place past the end of a list of effects
abbrev pub no_effect : Effect
no_effect = record { found = 0; found_mask = 0; changed_mask = 0; left = 0; left_mask = 0; may_stay = false }

-- each is that of the operation at its place
abbrev pub AreEffects : List Operation → List Effect → Type 0
AreEffects ops effects = (i : ℕ) → i < length effects → HasEffect (at ops i) (slice_index_or effects i no_effect)
