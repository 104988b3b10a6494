-- what an atomic makes of the old bytes and the sent ones
use Rattle.std.specs.Prelude.{ℕ, zero, suc, ◌+◌, ◌-◌, ◌*◌, ◌%◌, ◌^◌, List, [], ◌∷◌, length, Bool, if◌then◌else◌, nat_lt, int_lt, max}
use Rattle.std.specs.Int.{bit_at}
use Rattle.chi_fields.specs.declared.kind.Op.{Op}
use Rattle.chi_fields.specs.declared.kind.Op.TheVariants.{Add, Clr, Eor, Set, SMax, SMin, UMax, UMin}
use Rattle.chi_lanes.specs.Bytes.{number_in, signed_number_in, bytes}

-- the number whose lowest bits are f 0, f 1, and so on, so many of them
unfoldable pub from_bits : ℕ → (ℕ → ℕ) → ℕ
from_bits zero f = 0
from_bits (suc k) f = f k * 2 ^ k + from_bits k f

-- byte by byte, and bit by bit
unfoldable pub bitwise : (ℕ → ℕ → ℕ) → List ℕ → List ℕ → List ℕ
bitwise f [] ys = []
bitwise f (x ∷ xs) [] = []
bitwise f (x ∷ xs) (y ∷ ys) = from_bits 8 (λ j. f (bit_at x j) (bit_at y j)) ∷ bitwise f xs ys

-- the list that an operation leaves in the operand, of the old bytes and the sent ones
abbrev pub combine : Op → Bool → List ℕ → List ℕ → List ℕ
combine Add endian old sent = bytes endian (length old) ((number_in endian old + number_in endian sent) % 256 ^ length old)
combine Clr endian old sent = bitwise (λ x y. x * (1 - y)) old sent
combine Eor endian old sent = bitwise (λ x y. (x + y) % 2) old sent
combine Set endian old sent = bitwise (λ x y. max x y) old sent
combine SMax endian old sent = if int_lt (signed_number_in endian old) (signed_number_in endian sent) then sent else old
combine SMin endian old sent = if int_lt (signed_number_in endian sent) (signed_number_in endian old) then sent else old
combine UMax endian old sent = if nat_lt (number_in endian old) (number_in endian sent) then sent else old
combine UMin endian old sent = if nat_lt (number_in endian sent) (number_in endian old) then sent else old
