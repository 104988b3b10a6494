-- the lanes and the byte enables of a flit, of the digits of its data and of its enables
use Rattle.std.specs.Prelude.{ℕ, ◌+◌, ◌*◌, nat_le, if◌then◌else◌, List, [], ◌∷◌, length, map, Option, None, Some, is_none}
use Rattle.std.specs.Option.{unwrap_or}
use Rattle.std.specs.List.{range_with_len}
use Rattle.chi_lanes.specs.Combination.{from_bits}
use Rattle.chi_flits.specs.declared.flit.Chunk.{Chunk}
use Rattle.chi_flit_text.specs.declared.digits.Bits.{Bits}
use Rattle.chi_flit_text.specs.Digits.{bits_of, group, value_of}

-- lane i of the data, where it is known: its last two digits are lane 0
unfoldable pub lane_of : List ℕ → ℕ → Option ℕ
lane_of digits i = value_of (bits_of (group 2 i digits))

-- the byte of lane i, and a bit that says whether it is not known
abbrev pub byte_of : List ℕ → ℕ → ℕ
byte_of digits i = unwrap_or (lane_of digits i) 0

abbrev pub unknown_of : List ℕ → ℕ → ℕ
unknown_of digits i = if is_none (lane_of digits i) then 1 else 0

-- the enables of 16 lanes, four to a digit; a flit to a requester has none
unfoldable pub enables_of : List ℕ → ℕ → Bits
enables_of be k = if nat_le (4 * (k + 1)) (length be) then bits_of (group 4 k be) else record { known = 0; unknown = 0 }

-- lanes 16 k to 16 k + 15
unfoldable pub chunk_of : List ℕ → List ℕ → ℕ → Chunk
chunk_of be digits k = record {
  be = (enables_of be k).known;
  unknown_be = (enables_of be k).unknown;
  lanes = map (λ i. byte_of digits (16 * k + i)) (range_with_len 0 16);
  unknown = from_bits 16 (λ i. unknown_of digits (16 * k + i));
}

-- the same, where the flit is so wide
unfoldable pub chunk_at : List ℕ → List ℕ → ℕ → Option Chunk
chunk_at be digits k = if nat_le (32 * (k + 1)) (length digits) then Some (chunk_of be digits k) else None

abbrev pub chunks_of : List ℕ → List ℕ → List (Option Chunk)
chunks_of be digits = chunk_at be digits 0 ∷ chunk_at be digits 1 ∷ chunk_at be digits 2 ∷ chunk_at be digits 3 ∷ []
