-- the operands of operations that are told are aligned, and each lies in its line
use Rattle.std.specs.Prelude.{◌<◌, ◌^◌, ◌/◌, ◌%◌, if◌then◌else◌, nat_le, min}
use Rattle.std.proofs.Common.{◌≡◌, ℕ, zero, suc, ◌+◌, ◌*◌, ◌≤◌, arith}

-- an operand of this length at this address is aligned, and lies in a line below 2^52
pub record Lies (addr len : ℕ) : Type 0 where
  pub aligned : addr % len ≡ 0
  pub below : addr < 2 ^ 52
  pub inside : addr + len ≤ addr / 64 * 64 + 64

pub at_length : (size addr : ℕ) → size ≤ 3 → addr < 2 ^ 52 → addr % 2 ^ size ≡ 0 → Lies addr (2 ^ size)
at_length zero addr small below aligned = record { aligned = aligned; below = below; inside = omega arith }
at_length (suc zero) addr small below aligned = record { aligned = aligned; below = below; inside = omega arith }
at_length (suc (suc zero)) addr small below aligned = record { aligned = aligned; below = below; inside = omega arith }
at_length (suc (suc (suc zero))) addr small below aligned = record { aligned = aligned; below = below; inside = omega arith }
at_length (suc (suc (suc (suc n)))) addr small below aligned = absurd (omega arith)

-- the operand of an AtomicCompare
pub at_half : (size addr : ℕ) → 1 ≤ size → size ≤ 4 → addr < 2 ^ 52 → addr % (2 ^ size / 2) ≡ 0 → Lies addr (2 ^ size / 2)
at_half zero addr some small below aligned = absurd (omega arith)
at_half (suc zero) addr some small below aligned = record { aligned = aligned; below = below; inside = omega arith }
at_half (suc (suc zero)) addr some small below aligned = record { aligned = aligned; below = below; inside = omega arith }
at_half (suc (suc (suc zero))) addr some small below aligned = record { aligned = aligned; below = below; inside = omega arith }
at_half (suc (suc (suc (suc zero)))) addr some small below aligned = record { aligned = aligned; below = below; inside = omega arith }
at_half (suc (suc (suc (suc (suc n))))) addr some small below aligned = absurd (omega arith)

-- the granules of a read or a write of a size
pub at_granule : (size first i : ℕ) → size ≤ 6 → first < 2 ^ 52 → first % 2 ^ size ≡ 0 → i < (if nat_le size 3 then 1 else 2 ^ size / 8) → Lies (first + 8 * i) (2 ^ min size 3)
at_granule zero first i small below aligned less = record { aligned = omega arith; below = omega arith; inside = omega arith }
at_granule (suc zero) first i small below aligned less = record { aligned = omega arith; below = omega arith; inside = omega arith }
at_granule (suc (suc zero)) first i small below aligned less = record { aligned = omega arith; below = omega arith; inside = omega arith }
at_granule (suc (suc (suc zero))) first i small below aligned less = record { aligned = omega arith; below = omega arith; inside = omega arith }
at_granule (suc (suc (suc (suc zero)))) first i small below aligned less = record { aligned = omega arith; below = omega arith; inside = omega arith }
at_granule (suc (suc (suc (suc (suc zero))))) first i small below aligned less = record { aligned = omega arith; below = omega arith; inside = omega arith }
at_granule (suc (suc (suc (suc (suc (suc zero)))))) first i small below aligned less = record { aligned = omega arith; below = omega arith; inside = omega arith }
at_granule (suc (suc (suc (suc (suc (suc (suc n))))))) first i small below aligned less = absurd (omega arith)

-- the aligned bytes that hold an address
pub aligned_down : (size addr : ℕ) → size ≤ 6 → addr < 2 ^ 52 → (addr / 2 ^ size * 2 ^ size < 2 ^ 52) × (addr / 2 ^ size * 2 ^ size % 2 ^ size ≡ 0)
aligned_down zero addr small below = omega arith
aligned_down (suc zero) addr small below = omega arith
aligned_down (suc (suc zero)) addr small below = omega arith
aligned_down (suc (suc (suc zero))) addr small below = omega arith
aligned_down (suc (suc (suc (suc zero)))) addr small below = omega arith
aligned_down (suc (suc (suc (suc (suc zero))))) addr small below = omega arith
aligned_down (suc (suc (suc (suc (suc (suc zero)))))) addr small below = omega arith
aligned_down (suc (suc (suc (suc (suc (suc (suc n))))))) addr small below = absurd (omega arith)
