-- parts of lists of bytes are lists of bytes
use Rattle.std.proofs.Common.{ℕ, zero, suc, ◌+◌, ◌-◌, ◌/◌, ◌≤◌, List, [], ◌∷◌, ◌++◌, length, take, drop, slice_range, inl, inr, arith, get_or-take, get_or-drop, length-take}
use Rattle.std.proofs.lemmas.Bool.{cases_lt}
use Rattle.std.proofs.lemmas.List.{get_or_past}
use Rattle.chi_lanes.specs.Bytes.{little_bytes, AreBytes}

-- the front of a list of bytes
pub AreBytes-take : (n : ℕ) (bs : List ℕ) → AreBytes bs → AreBytes (take n bs)
AreBytes-take n bs are i = elim (cases_lt i n) [
  | inl below ↦ rw (get_or-take n bs i 0 below) (are i)
  | inr past ↦
      let count : length (take n bs) ≤ i = rw length-take (omega arith) in
      rw (get_or_past (take n bs) i 0 count) (omega arith)
]

-- the rest of a list of bytes
pub AreBytes-drop : (n : ℕ) (bs : List ℕ) → AreBytes bs → AreBytes (drop n bs)
AreBytes-drop n bs are i = rw (get_or-drop n bs i 0) (are (n + i))

-- a range of a list of bytes
pub AreBytes-slice_range : (bs : List ℕ) (a b : ℕ) → AreBytes bs → AreBytes (slice_range bs a b)
AreBytes-slice_range bs a b are = AreBytes-take (b - a) (drop a bs) (AreBytes-drop a bs are)

-- one list of bytes after another
pub AreBytes-append : (xs ys : List ℕ) → AreBytes xs → AreBytes ys → AreBytes (xs ++ ys)
AreBytes-append [] ys are_xs are_ys i = are_ys i
AreBytes-append (x ∷ xs) ys are_xs are_ys zero = are_xs 0
AreBytes-append (x ∷ xs) ys are_xs are_ys (suc i) = AreBytes-append xs ys (λ j. are_xs (suc j)) are_ys i

-- the bytes of a number
pub AreBytes-little_bytes : (n x : ℕ) → AreBytes (little_bytes n x)
unfolding little_bytes
AreBytes-little_bytes zero x i = omega arith
AreBytes-little_bytes (suc n) x zero = omega arith
AreBytes-little_bytes (suc n) x (suc i) = AreBytes-little_bytes n (x / 256) i
