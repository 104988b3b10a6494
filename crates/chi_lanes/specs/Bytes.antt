-- numbers and the bytes that spell them, in both byte orders
use Rattle.std.specs.Prelude.{ℕ, zero, suc, ◌+◌, ◌*◌, ◌/◌, ◌%◌, ◌^◌, ◌<◌, List, [], ◌∷◌, length, reverse, slice_index, Bool, if◌then◌else◌, nat_lt, pos, ◌-ℤ◌, ℤ}

-- each item is below 256
abbrev pub AreBytes : List ℕ → Type 0
AreBytes bs = (i : ℕ) → slice_index bs i < 256

-- the number of some bytes, the least significant first
unfoldable pub little : List ℕ → ℕ
little [] = 0
little (b ∷ bs) = b + 256 * little bs

-- the number of some bytes, the most significant first
unfoldable pub big : List ℕ → ℕ
big [] = 0
big (b ∷ bs) = b * 256 ^ length bs + big bs

-- the number of some bytes: big-endian or little-endian
abbrev pub number_in : Bool → List ℕ → ℕ
number_in endian bs = if endian then big bs else little bs

-- a number of so many bytes, read as two's complement
abbrev pub signed_number : ℕ → ℕ → ℤ
signed_number len n = if nat_lt (2 * n) (256 ^ len) then pos n else pos n -ℤ pos (256 ^ len)

-- the two's complement number of some bytes
abbrev pub signed_number_in : Bool → List ℕ → ℤ
signed_number_in endian bs = signed_number (length bs) (number_in endian bs)

-- so many bytes that spell a number, the least significant first
unfoldable pub little_bytes : ℕ → ℕ → List ℕ
little_bytes zero n = []
little_bytes (suc len) n = n % 256 ∷ little_bytes len (n / 256)

-- so many bytes that spell a number, big-endian or little-endian
abbrev pub bytes : Bool → ℕ → ℕ → List ℕ
bytes endian len n = if endian then reverse (little_bytes len n) else little_bytes len n
