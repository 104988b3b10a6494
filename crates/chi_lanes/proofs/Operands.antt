-- the operand of a lawful access, in its granule's word and in the packet
use Rattle.std.proofs.Common.{◌≡◌, ℕ, ◌+◌, ◌-◌, ◌*◌, ◌%◌, ◌^◌, ◌<◌, ◌≤◌, ◌==◌, Bool, true, false, List, [], ◌∷◌, ◌++◌, length, take, drop, slice_range, refl, sym, ap, ◌∙◌, arith, inl, inr, eqb-true, eq-eqb, true≢false, ◌≢◌}
use Rattle.std.proofs.lemmas.Bool.{and_from, and_parts}
use Rattle.std.proofs.lemmas.Bool.Decides.{nat_tests}
use Rattle.chi_fields.specs.Access.{IsLen, lane_of}
use Rattle.chi_fields.proofs.EnableBits.{window_within}
use Rattle.chi_lanes.specs.After.{same_bytes}
use Rattle.chi_lanes.specs.Bytes.{AreBytes, little, little_bytes}
use Rattle.chi_lanes.specs.Memory.{Memory, IsMemory, bytes_from, granule_start, with_bytes, word_at}
use Rattle.chi_lanes.specs.Packet.{other_half, swap_value}
use Rattle.chi_lanes.proofs.ByteLists.{AreBytes-slice_range}
use Rattle.chi_lanes.proofs.Digits.{little_bytes_little, same_from_bytes}
use Rattle.chi_lanes.proofs.MemoryLemmas.{inserted, little_bytes-extracted}
use Rattle.chi_lanes.proofs.Runs.{length-slice_range}

-- where an aligned operand stands in its granule, and in the packet
pub record IsPlaced (addr len : ℕ) : Type 0 where
  pub some : 1 ≤ len
  pub room : addr % 8 + len ≤ 8
  pub at : granule_start addr + addr % 8 ≡ addr
  pub packet : lane_of addr + len ≤ 16
  pub aligned : lane_of addr % len ≡ 0

pub placed : (addr len : ℕ) → IsLen len → addr % len ≡ 0 → IsPlaced addr len
placed addr len part aligned = elim part [
  | inl one ↦ rw one (let e = rw one at aligned in record { some = omega arith; room = omega arith; at = omega arith; packet = omega arith; aligned = omega arith })
  | inr (inl two) ↦ rw two (let e = rw two at aligned in record { some = omega arith; room = omega arith; at = omega arith; packet = omega arith; aligned = omega arith })
  | inr (inr (inl four)) ↦ rw four (let e = rw four at aligned in record { some = omega arith; room = omega arith; at = omega arith; packet = omega arith; aligned = omega arith })
  | inr (inr (inr eight)) ↦ rw eight (let e = rw eight at aligned in record { some = omega arith; room = omega arith; at = omega arith; packet = omega arith; aligned = omega arith })
]

-- what is extracted of the granule's word are the operand's bytes
pub old_bytes : (m : Memory) → IsMemory m → (addr len word value : ℕ) → IsPlaced addr len → word ≡ word_at m (granule_start addr)
    → value ≡ little (slice_range (little_bytes 8 word) (addr % 8) (addr % 8 + len)) → little_bytes len value ≡ bytes_from m addr len
old_bytes m is addr len word value place at_start read =
    little_bytes-extracted m is (granule_start addr) (addr % 8) len word value place.room at_start read ∙ ap (λ a. bytes_from m a len) place.at

-- what is inserted into the granule's word is written to the memory
pub stored_word : (m : Memory) → IsMemory m → (addr len value word after : ℕ) → IsPlaced addr len → word ≡ word_at m (granule_start addr) → after < 2 ^ 64
    → little_bytes 8 after ≡ take (addr % 8) (little_bytes 8 word) ++ (little_bytes len value ++ drop (addr % 8 + len) (little_bytes 8 word))
    → after ≡ word_at (with_bytes m addr (little_bytes len value)) (granule_start addr)
stored_word m is addr len value word after place at_start below made =
    inserted m is (granule_start addr) (addr % 8) len value word after (little_bytes len value) place.room at_start refl below made
    ∙ ap (λ a. word_at (with_bytes m a (little_bytes len value)) (granule_start addr)) place.at

-- the bytes of the number of a range of lanes are those lanes
pub lanes_of_value : (lanes : List ℕ) (first len value : ℕ) → length lanes ≡ 16 → AreBytes lanes → first + len ≤ 16
    → value ≡ little (slice_range lanes first (first + len)) → little_bytes len value ≡ slice_range lanes first (first + len)
lanes_of_value lanes first len value whole are within read =
    let count : length (slice_range lanes first (first + len)) ≡ len = length-slice_range lanes first len (rw whole within) in
    let spelled = little_bytes_little (slice_range lanes first (first + len)) (AreBytes-slice_range lanes first (first + len) are) in
    ap (little_bytes len) read ∙ rw count at spelled

-- the other half of a window lies in the packet
pub other_within : (l len : ℕ) → IsLen len → l < 16 → other_half l len + len ≤ 16
other_within l len part inside =
    let window : l - l % (2 * len) + 2 * len ≤ 16 = window_within l len part inside in
    grind (arith, nat_tests, window)

-- the bytes of the swap value's number are the swap value
pub swap_of_value : (lanes : List ℕ) (l len value : ℕ) → length lanes ≡ 16 → AreBytes lanes → IsLen len → l < 16
    → value ≡ little (swap_value lanes l len) → little_bytes len value ≡ swap_value lanes l len
swap_of_value lanes l len value whole are part inside read =
    lanes_of_value lanes (other_half l len) len value whole are (other_within l len part inside) read

-- a list has its own bytes
pub same_bytes-self : (bs : List ℕ) → same_bytes bs bs ≡ true
unfolding same_bytes
same_bytes-self [] = refl
same_bytes-self (b ∷ bs) = and_from (b == b) (same_bytes bs bs) (eq-eqb b b refl) (same_bytes-self bs)

-- lists of the same bytes are equal
pub same_bytes-true : (xs ys : List ℕ) → same_bytes xs ys ≡ true → xs ≡ ys
unfolding same_bytes
same_bytes-true [] [] same = refl
same_bytes-true [] (y ∷ ys) same = absurd (true≢false (sym same))
same_bytes-true (x ∷ xs) [] same = absurd (true≢false (sym same))
same_bytes-true (x ∷ xs) (y ∷ ys) same =
    let parts = and_parts (x == y) (same_bytes xs ys) same in
    λ i. (eqb-true x y parts.0 i) ∷ (same_bytes-true xs ys parts.1 i)

-- numbers of so many bytes that differ have other bytes
pub same_bytes-differs : (len a b : ℕ) (xs ys : List ℕ) → a < 256 ^ len → b < 256 ^ len → little_bytes len a ≡ xs → little_bytes len b ≡ ys
    → a ≢ b → same_bytes xs ys ≡ false
same_bytes-differs len a b xs ys a_below b_below a_is b_is differ = by_test (same_bytes xs ys) refl
  where
    by_test : (t : Bool) → same_bytes xs ys ≡ t → same_bytes xs ys ≡ false
    by_test true same = absurd (differ (same_from_bytes len a b a_below b_below (a_is ∙ (same_bytes-true xs ys same ∙ sym b_is))))
    by_test false same = same
