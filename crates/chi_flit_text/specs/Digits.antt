-- hex digits as simulators print them, the most significant first: of some the value is not known
use Rattle.std.specs.Prelude.{ℕ, ◌+◌, ◌-◌, ◌*◌, ◌==◌, ◌||◌, Bool, if◌then◌else◌, List, length, map, take, drop, Option, None, Some}
use Rattle.std.specs.Char.{digit_value, is_digit}
use Rattle.std.specs.Int.Digits.{number_from_digits}
use Rattle.std.specs.List.{list_all}
use Rattle.chi_flit_text.specs.declared.digits.Bits.{Bits}

-- a digit: of hex in either case, or x or z, whose value is not known
abbrev pub is_unknown : ℕ → Bool
is_unknown code = code == 120 || code == 88 || code == 122 || code == 90

abbrev pub is_text : List ℕ → Bool
is_text s = list_all (λ code. is_digit code 16 || is_unknown code) s

-- the four bits of a digit that are 1, and those that are not known
abbrev pub known_bits : ℕ → ℕ
known_bits code = if is_digit code 16 then digit_value code else 0

abbrev pub unknown_bits : ℕ → ℕ
unknown_bits code = if is_digit code 16 then 0 else 15

-- those of a text of digits
unfoldable pub bits_of : List ℕ → Bits
bits_of s = record { known = number_from_digits 16 (map known_bits s); unknown = number_from_digits 16 (map unknown_bits s) }

-- the number of which these are the bits, where all are known
abbrev pub value_of : Bits → Option ℕ
value_of bits = if bits.unknown == 0 then Some bits.known else None

-- the group at a place, of groups of so many digits: those at place 0 are the last
unfoldable pub group : ℕ → ℕ → List ℕ → List ℕ
group width place s = take width (drop (length s - width * (place + 1)) s)
