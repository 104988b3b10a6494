-- the library's eight bytes of a word are the digits of its number
use Rattle.std.proofs.Common.{◌≡◌, ℕ, ◌+◌, ◌≤◌, List, length, slice_range, sym, ap, ◌∙◌, w64}
use Rattle.std.proofs.Math.Nat.{div-div-eq-div-mul}
use Rattle.std.proofs.lemmas.Nat.{le_bytes_8}
use Rattle.std.specs.Int.{to_le_bytes, from_le_bytes}
use Rattle.chi_lanes.specs.Bytes.{little_bytes, AreBytes}
use Rattle.chi_lanes.proofs.ByteLists.{AreBytes-slice_range}
use Rattle.chi_lanes.proofs.Runs.{length-slice_range}

-- what `to_le_bytes` writes
pub to_le_bytes_is : (n : ℕ) → to_le_bytes w64 n ≡ little_bytes 8 n
unfolding little_bytes
to_le_bytes_is n = simp div-div-eq-div-mul

-- the bytes of what `from_le_bytes` read
pub from_le_bytes_is : (bs : List ℕ) (n : ℕ) → length bs ≡ 8 → AreBytes bs → n ≡ from_le_bytes w64 bs → little_bytes 8 n ≡ bs
from_le_bytes_is bs n count are read = sym (to_le_bytes_is n) ∙ le_bytes_8 bs n count are read

-- the bytes of what was read from eight lanes
pub lanes_read : (lanes bs : List ℕ) (first n : ℕ) → first + 8 ≤ length lanes → AreBytes lanes →
    bs ≡ slice_range lanes first (first + 8) → n ≡ from_le_bytes w64 bs → little_bytes 8 n ≡ slice_range lanes first (first + 8)
lanes_read lanes bs first n within are copied read =
    from_le_bytes_is (slice_range lanes first (first + 8)) n (length-slice_range lanes first 8 within)
    (AreBytes-slice_range lanes first (first + 8) are) (read ∙ ap (from_le_bytes w64) copied)
