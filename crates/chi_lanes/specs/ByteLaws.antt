-- laws of numbers and of the bytes that spell them, each named by a function whose contract it is
use Rattle.std.specs.Prelude.{◌≡◌, ℕ, ◌^◌, ◌<◌, List, length, Bool}
use Rattle.chi_lanes.specs.Bytes.{AreBytes, bytes, number_in}

-- the bytes of a number below 256 ^ len, in either byte order, are len bytes that spell it
abbrev pub BytesSpellNumber : Type 0
BytesSpellNumber = (endian : Bool) (len n : ℕ) → n < 256 ^ len
    → (length (bytes endian len n) ≡ len) × AreBytes (bytes endian len n) × (number_in endian (bytes endian len n) ≡ n)

-- a list of len bytes is the bytes of the number that it spells, in either byte order
abbrev pub NumberHasBytes : Type 0
NumberHasBytes = (endian : Bool) (len : ℕ) (bs : List ℕ) → length bs ≡ len → AreBytes bs
    → (number_in endian bs < 256 ^ len) × (bytes endian len (number_in endian bs) ≡ bs)
