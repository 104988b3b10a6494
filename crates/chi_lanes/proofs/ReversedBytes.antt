-- lemmas on reversed bytes, on the numbers that they spell, and on both byte orders
use Rattle.std.proofs.Common.{◌≡◌, ℕ, zero, suc, ◌+◌, ◌*◌, ◌/◌, ◌%◌, ◌^◌, ◌<◌, ◌≤◌, List, [], ◌∷◌, ◌++◌, length, reverse, replicate, slice_index, Bool, true, false, refl, ap, sym, ◌∙◌, arith, inl, inr, ◌-◌, length-append}
use Rattle.std.proofs.lemmas.Bool.{cases_lt}
use Rattle.std.proofs.lemmas.List.{reverse-reverse, length-reverse, get_or-reverse, get_or_past}
use Rattle.std.proofs.lemmas.Nat.{pow-add}
use Rattle.std.proofs.lemmas.Grind.{reverse_onto}
use Rattle.chi_lanes.specs.Bytes.{little, big, little_bytes, number_in, bytes}
use Rattle.chi_lanes.proofs.Digits.{length-little_bytes, little_little_bytes, little_bytes_little, little-bound}

-- the number of joined bytes, the most significant first
pub big-append : (xs ys : List ℕ) → big (xs ++ ys) ≡ big xs * 256 ^ length ys + big ys
unfolding big
big-append [] ys = omega arith
big-append (x ∷ xs) ys =
    rw (big-append xs ys, length-append xs ys, pow-add 256 (length xs) (length ys)) (omega arith)

-- reversed bytes, read big-endian, spell what the bytes spell little-endian
pub big-reverse : (bs : List ℕ) → big (reverse bs) ≡ little bs
unfolding little big
big-reverse [] = refl
big-reverse (b ∷ bs) =
    rw (reverse_onto bs b [], big-append (reverse bs) (b ∷ []), big-reverse bs) (omega arith)

-- reversed bytes, read little-endian, spell what the bytes spell big-endian
pub little-reverse : (bs : List ℕ) → little (reverse bs) ≡ big bs
little-reverse bs = sym (big-reverse (reverse bs)) ∙ ap big (reverse-reverse bs)

-- zeros spell 0
pub big-zeros : (n : ℕ) → big (replicate n 0) ≡ 0
unfolding big
big-zeros zero = refl
big-zeros (suc n) = rw (big-zeros n) (omega arith)

-- the bytes of 0 are zeros
pub little_bytes-zero : (n : ℕ) → little_bytes n 0 ≡ replicate n 0
unfolding little_bytes
little_bytes-zero zero = refl
little_bytes-zero (suc n) = ap (λ (bs : List ℕ). 0 ∷ bs) (little_bytes-zero n)

-- each byte of a number is a byte
pub AreBytes-little_bytes : (n x i : ℕ) → slice_index (little_bytes n x) i < 256
unfolding little_bytes
AreBytes-little_bytes zero x i = omega arith
AreBytes-little_bytes (suc n) x zero = omega arith
AreBytes-little_bytes (suc n) x (suc i) = AreBytes-little_bytes n (x / 256) i

-- each byte of reversed bytes is a byte
pub AreBytes-reverse : (bs : List ℕ) → ((i : ℕ) → slice_index bs i < 256) → (i : ℕ) → slice_index (reverse bs) i < 256
AreBytes-reverse bs is i =
    elim (cases_lt i (length bs)) [
      | inl within ↦ rw (get_or-reverse bs i 0 within) (is (length bs - 1 - i))
      | inr past ↦
          let far : length (reverse bs) ≤ i = rw (length-reverse bs) past in
          rw (get_or_past (reverse bs) i 0 far) (omega arith)
    ]

-- bytes, read big-endian, spell a number below that power of 256
pub big-bound : (bs : List ℕ) → ((i : ℕ) → slice_index bs i < 256) → big bs < 256 ^ length bs
big-bound bs is =
    rw (← little-reverse bs, ← length-reverse bs) (little-bound (reverse bs) (AreBytes-reverse bs is))

-- bytes, read in either order, spell a number below that power of 256
pub number_in-bound : (endian : Bool) (bs : List ℕ) → ((i : ℕ) → slice_index bs i < 256) → number_in endian bs < 256 ^ length bs
number_in-bound true bs is = big-bound bs is
number_in-bound false bs is = little-bound bs is

-- the bytes of a number in either order are so many
pub length-bytes : (endian : Bool) (len n : ℕ) → length (bytes endian len n) ≡ len
length-bytes true len n = length-reverse (little_bytes len n) ∙ length-little_bytes len n
length-bytes false len n = length-little_bytes len n

-- each byte of a number in either order is a byte
pub AreBytes-bytes : (endian : Bool) (len n i : ℕ) → slice_index (bytes endian len n) i < 256
AreBytes-bytes true len n i = AreBytes-reverse (little_bytes len n) (AreBytes-little_bytes len n) i
AreBytes-bytes false len n i = AreBytes-little_bytes len n i

-- the bytes of a number spell it, cut to so many bytes
pub number_in-bytes : (endian : Bool) (len n : ℕ) → number_in endian (bytes endian len n) ≡ n % 256 ^ len
number_in-bytes true len n = big-reverse (little_bytes len n) ∙ little_little_bytes len n
number_in-bytes false len n = little_little_bytes len n

-- the bytes of the number that bytes spell are those bytes
pub bytes-number_in : (endian : Bool) (bs : List ℕ) → ((i : ℕ) → slice_index bs i < 256) → bytes endian (length bs) (number_in endian bs) ≡ bs
bytes-number_in true bs is =
    let turned : little_bytes (length (reverse bs)) (little (reverse bs)) ≡ reverse bs =
    little_bytes_little (reverse bs) (AreBytes-reverse bs is) in
    let back : little_bytes (length bs) (big bs) ≡ reverse bs =
    rw (← little-reverse bs, ← length-reverse bs) turned in
    ap reverse back ∙ reverse-reverse bs
bytes-number_in false bs is = little_bytes_little bs is
