-- lists in runs: what take, drop and a range give of them
use Rattle.std.proofs.Common.{◌≡◌, ℕ, ◌+◌, ◌-◌, ◌≤◌, List, ◌++◌, length, take, drop, slice_range, refl, sym, ap, ◌∙◌, arith, take_at, drop_at, take-take, drop-drop, length-drop, length-take-le, ◌%◌, ◌<◌, slice_index, get_or-take, get_or-drop}
use Rattle.std.proofs.lemmas.List.{drop-take}

-- a range of so many items
pub range_is : (xs : List ℕ) (a n : ℕ) → slice_range xs a (a + n) ≡ take n (drop a xs)
range_is xs a n = let count : a + n - a ≡ n = omega arith in ap (λ (k : ℕ). take k (drop a xs)) count

-- the first of three runs
pub first_run : (p v q : List ℕ) (a : ℕ) → length p ≡ a → take a (p ++ (v ++ q)) ≡ p
first_run p v q a e = take_at p (v ++ q) a e

-- the run in the middle
pub middle_run : (p v q : List ℕ) (a b : ℕ) → length p ≡ a → length v ≡ b → slice_range (p ++ (v ++ q)) a (a + b) ≡ v
middle_run p v q a b e f = rw (range_is, drop_at p (v ++ q) a e) (take_at v q b f)

-- the last of three runs
pub last_run : (p v q : List ℕ) (a b : ℕ) → length p ≡ a → length v ≡ b → drop (a + b) (p ++ (v ++ q)) ≡ q
last_run p v q a b e f =
    sym (drop-drop b a (p ++ (v ++ q))) ∙ rw (drop_at p (v ++ q) a e) (drop_at v q b f)

-- a range of a range
pub range-range : (xs : List ℕ) (a m k n : ℕ) → k + n ≤ m →
    slice_range (slice_range xs a (a + m)) k (k + n) ≡ slice_range xs (a + k) (a + k + n)
range-range xs a m k n within =
    let count : k + (m - k) ≡ m = omega arith in
    let inner : n ≤ m - k = omega arith in
    let split : drop k (take m (drop a xs)) ≡ take (m - k) (drop k (drop a xs)) =
    ap (λ (j : ℕ). drop k (take j (drop a xs))) (sym count) ∙ drop-take k (m - k) (drop a xs) in
    rw (range_is (slice_range xs a (a + m)) k n, range_is xs a m, range_is xs (a + k) n, split, take-take n (m - k) (drop k (drop a xs)) inner, drop-drop k a xs) refl

-- the length of a range that lies in the list
pub length-slice_range : (xs : List ℕ) (a n : ℕ) → a + n ≤ length xs → length (slice_range xs a (a + n)) ≡ n
length-slice_range xs a n within =
    let rest : n ≤ length (drop a xs) = rw length-drop (omega arith) in
    rw range_is (length-take-le n (drop a xs) rest)

-- an operand's lanes, read within their half of the packet
pub range_in_half : (xs : List ℕ) (first lane len : ℕ) → first + lane % 8 ≡ lane → lane % 8 + len ≤ 8 →
    slice_range (slice_range xs first (first + 8)) (lane % 8) (lane % 8 + len) ≡ slice_range xs lane (lane + len)
range_in_half xs first lane len place within =
    range-range xs first 8 (lane % 8) len within ∙ ap (λ (at : ℕ). slice_range xs at (at + len)) place

-- an item of a range
pub slice_index-slice_range : (xs : List ℕ) (a n i : ℕ) → i < n → slice_index (slice_range xs a (a + n)) i ≡ slice_index xs (a + i)
slice_index-slice_range xs a n i below = rw range_is (get_or-take n (drop a xs) i 0 below ∙ get_or-drop a xs i 0)
