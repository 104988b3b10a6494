-- of two values that are combined with the old bytes one after the other, either may come first
use Rattle.std.proofs.Common.{◌≡◌, ℕ, zero, suc, ◌+◌, ◌-◌, ◌*◌, ◌%◌, ◌^◌, ◌<◌, ◌≤◌, max, Bool, List, [], ◌∷◌, length, nat_lt, int_lt, refl, sym, ap, ap₂, ◌∙◌, arith}
use Rattle.std.specs.Int.{bit_at}
use Rattle.std.proofs.lemmas.Nat.Bits.{bit_at-lt}
use Rattle.std.proofs.Math.Nat.{mod-add-mod, mod-mod, mul_right_comm}
use Rattle.chi_fields.specs.declared.kind.Op.{Op}
use Rattle.chi_fields.specs.declared.kind.Op.TheVariants.{Add, Clr, Eor, Set, SMax, SMin, UMax, UMin}
use Rattle.chi_lanes.specs.Bytes.{AreBytes, bytes, number_in, signed_number_in}
use Rattle.chi_lanes.specs.Combination.{bitwise, combine, from_bits}
use Rattle.chi_lanes.proofs.ReversedBytes.{length-bytes, number_in-bytes}
use Rattle.chi_search.proofs.Picking.{greatest, least, same_number, same_turned, signed_by, turned}
use Rattle.chi_search.proofs.Spelled.{MakesBits, MakesBits-clr, MakesBits-eor, MakesBits-set, spelled_bit}

-- sums, cut to so many bytes
added : (m o s t : ℕ) → ((o + s) % m % m + t) % m ≡ (o + s + t) % m
added m o s t = ap (λ n. (n + t) % m) (mod-mod (o + s) m) ∙ mod-add-mod (o + s) m t

add_once : (endian : Bool) (old s t : List ℕ)
    → combine Add endian (combine Add endian old s) t ≡ bytes endian (length old) ((number_in endian old + number_in endian s + number_in endian t) % 256 ^ length old)
add_once endian old s t =
    let sum : ℕ = (number_in endian old + number_in endian s) % 256 ^ length old in
    rw (length-bytes endian (length old) sum, number_in-bytes endian (length old) sum)
    (ap (bytes endian (length old)) (added (256 ^ length old) (number_in endian old) (number_in endian s) (number_in endian t)))

adds : (endian : Bool) (old s t : List ℕ) → combine Add endian (combine Add endian old s) t ≡ combine Add endian (combine Add endian old t) s
adds endian old s t =
    let turned : number_in endian old + number_in endian s + number_in endian t ≡ number_in endian old + number_in endian t + number_in endian s = omega arith in
    add_once endian old s t ∙ ap (λ n. bytes endian (length old) (n % 256 ^ length old)) turned ∙ sym (add_once endian old t s)

-- the same bits spell the same number
spelled_same : (k : ℕ) (f g : ℕ → ℕ) → ((j : ℕ) → j < k → f j ≡ g j) → from_bits k f ≡ from_bits k g
unfolding from_bits
spelled_same zero f g same = refl
spelled_same (suc k) f g same =
    rw (same k (omega arith), spelled_same k f g (λ j below. same j (omega (arith, below)))) refl

-- an operation on bits that makes a bit, and takes its second operands in either order
record Commutes (f : ℕ → ℕ → ℕ) : Type 0 where
  bit : MakesBits f
  either : (a b c : ℕ) → a < 2 → b < 2 → c < 2 → f (f a b) c ≡ f (f a c) b

byte_twice : (f : ℕ → ℕ → ℕ) → Commutes f → (x y z : ℕ)
    → from_bits 8 (λ j. f (bit_at (from_bits 8 (λ k. f (bit_at x k) (bit_at y k))) j) (bit_at z j))
    ≡ from_bits 8 (λ j. f (f (bit_at x j) (bit_at y j)) (bit_at z j))
byte_twice f is x y z = spelled_same 8 _ _ (λ j below. ap (λ b. f b (bit_at z j))
    (spelled_bit 8 (λ k. f (bit_at x k) (bit_at y k)) (λ k. is.bit (bit_at x k) (bit_at y k) (bit_at-lt x k) (bit_at-lt y k)) j below))

byte_either : (f : ℕ → ℕ → ℕ) → Commutes f → (x y z : ℕ)
    → from_bits 8 (λ j. f (bit_at (from_bits 8 (λ k. f (bit_at x k) (bit_at y k))) j) (bit_at z j))
    ≡ from_bits 8 (λ j. f (bit_at (from_bits 8 (λ k. f (bit_at x k) (bit_at z k))) j) (bit_at y j))
byte_either f is x y z =
    byte_twice f is x y z
    ∙ spelled_same 8 _ _ (λ j _. is.either (bit_at x j) (bit_at y j) (bit_at z j) (bit_at-lt x j) (bit_at-lt y j) (bit_at-lt z j))
    ∙ sym (byte_twice f is x z y)

bits : (f : ℕ → ℕ → ℕ) → Commutes f → (old s t : List ℕ) → bitwise f (bitwise f old s) t ≡ bitwise f (bitwise f old t) s
unfolding bitwise
bits f is [] s t = refl
bits f is (x ∷ old) [] [] = refl
bits f is (x ∷ old) [] (z ∷ t) = refl
bits f is (x ∷ old) (y ∷ s) [] = refl
bits f is (x ∷ old) (y ∷ s) (z ∷ t) = ap₂ (λ b bs. b ∷ bs) (byte_either f is x y z) (bits f is old s t)

clears : Commutes (λ x y. x * (1 - y))
clears = record {
  bit = MakesBits-clr;
  either = λ a b c _ _ _. mul_right_comm a (1 - b) (1 - c);
}

turns : Commutes (λ x y. (x + y) % 2)
turns = record { bit = MakesBits-eor; either = λ a b c p q r. omega (arith, p, q, r) }

sets : Commutes (λ x y. max x y)
sets = record { bit = MakesBits-set; either = λ a b c p q r. omega (arith, p, q, r) }

pub combines : (op : Op) (endian : Bool) (old s t : List ℕ) → AreBytes old → AreBytes s → AreBytes t → length s ≡ length old → length t ≡ length old
    → 1 ≤ length old
    → combine op endian (combine op endian old s) t ≡ combine op endian (combine op endian old t) s
combines Add endian old s t is_old is_s is_t long_s long_t some = adds endian old s t
combines Clr endian old s t is_old is_s is_t long_s long_t some = bits (λ x y. x * (1 - y)) clears old s t
combines Eor endian old s t is_old is_s is_t long_s long_t some = bits (λ x y. (x + y) % 2) turns old s t
combines Set endian old s t is_old is_s is_t long_s long_t some = bits (λ x y. max x y) sets old s t
combines SMax endian old s t is_old is_s is_t long_s long_t some =
    greatest (λ x y. int_lt (signed_number_in endian x) (signed_number_in endian y)) old s t (turned endian old) (turned endian s) (turned endian t)
    (signed_by endian old s is_old is_s (sym long_s) some) (signed_by endian old t is_old is_t (sym long_t) some)
    (signed_by endian s t is_s is_t (long_s ∙ sym long_t) (rw long_s some)) (signed_by endian t s is_t is_s (long_t ∙ sym long_s) (rw long_t some))
    (same_turned endian s t is_s is_t (long_s ∙ sym long_t))
combines SMin endian old s t is_old is_s is_t long_s long_t some =
    least (λ x y. int_lt (signed_number_in endian y) (signed_number_in endian x)) old s t (turned endian old) (turned endian s) (turned endian t)
    (signed_by endian s old is_s is_old long_s (rw long_s some)) (signed_by endian t old is_t is_old long_t (rw long_t some))
    (signed_by endian t s is_t is_s (long_t ∙ sym long_s) (rw long_t some)) (signed_by endian s t is_s is_t (long_s ∙ sym long_t) (rw long_s some))
    (same_turned endian s t is_s is_t (long_s ∙ sym long_t))
combines UMax endian old s t is_old is_s is_t long_s long_t some =
    greatest (λ x y. nat_lt (number_in endian x) (number_in endian y)) old s t (number_in endian old) (number_in endian s) (number_in endian t) refl refl refl refl
    (same_number endian s t is_s is_t (long_s ∙ sym long_t))
combines UMin endian old s t is_old is_s is_t long_s long_t some =
    least (λ x y. nat_lt (number_in endian y) (number_in endian x)) old s t (number_in endian old) (number_in endian s) (number_in endian t) refl refl refl refl
    (same_number endian s t is_s is_t (long_s ∙ sym long_t))
