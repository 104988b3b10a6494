-- operations that work bit by bit: each bit that they leave depends on that bit alone
use Rattle.std.proofs.Common.{◌≡◌, ℕ, ◌+◌, ◌-◌, ◌*◌, ◌%◌, ◌^◌, ◌<◌, max, ◌⊎◌, sym, ap, ◌∙◌, arith, inl, inr}
use Rattle.std.specs.Int.{bit_at}
use Rattle.std.proofs.lemmas.Nat.Bits.{bit_at-lt}
use Rattle.chi_fields.specs.declared.kind.Kind.{Kind}
use Rattle.chi_fields.specs.declared.kind.Kind.TheVariants.{Read, Write, Store, Load, Swap, Compare}
use Rattle.chi_fields.specs.declared.kind.Op.TheVariants.{Clr, Eor, Set}
use Rattle.chi_fields.specs.Access.{IsLawful, Access, lane_of}
use Rattle.chi_lanes.specs.After.{after_as}
use Rattle.chi_lanes.specs.Memory.{Memory}
use Rattle.chi_lanes.specs.Packet.{sent}
use Rattle.chi_lanes.proofs.AfterLemmas.{length-sent}
use Rattle.chi_trace.specs.declared.operation.Operation.{Operation}
use Rattle.chi_trace.specs.Granules.{next}
use Rattle.chi_search.specs.Effects.{IsBitwise, IsBlind, IsEor}
use Rattle.chi_search.proofs.Spelled.{MakesBits, MakesBits-clr, MakesBits-eor, MakesBits-set}
use Rattle.chi_search.proofs.Told.{bit_after, bit_here, byte_of, here}
use Rattle.chi_search.proofs.Written.{StaysOrIs, blind_byte, enabled_whole, made, made_bit, sent_byte, written_whole}

-- a bit of a byte of two memories that have the same bit there: where the byte stays or is written whole
same_byte : (kind : Kind) (o : Access) (m n : Memory) (x j : ℕ) → StaysOrIs kind o x → bit_at (m x) j ≡ bit_at (n x) j
    → bit_at (after_as kind o m x) j ≡ bit_at (after_as kind o n x) j
same_byte kind o m n x j (inl stays) same = ap (λ b. bit_at b j) (stays m) ∙ same ∙ sym (ap (λ b. bit_at b j) (stays n))
same_byte kind o m n x j (inr is) same = ap (λ b. bit_at b j) (is m n)

-- where the operand is made bit by bit
same_made : (f : ℕ → ℕ → ℕ) → MakesBits f → (o : Access) (m n : Memory) (x j : ℕ) → IsLawful o → j < 8 → bit_at (m x) j ≡ bit_at (n x) j
    → bit_at (made f o m x) j ≡ bit_at (made f o n x) j
same_made f is o m n x j lawful below same = elim (made_bit f is o x j lawful below) [
  | inl stays ↦ ap (λ b. bit_at b j) (stays m) ∙ same ∙ sym (ap (λ b. bit_at b j) (stays n))
  | inr is_made ↦ is_made m ∙ ap (λ b. f b (bit_at (sent_byte o x) j)) same ∙ sym (is_made n)
]

-- and after an operation of each kind that works bit by bit
same_after : (kind : Kind) (o : Access) (m n : Memory) (x j : ℕ) → IsLawful o → IsBitwise kind → j < 8 → bit_at (m x) j ≡ bit_at (n x) j
    → bit_at (after_as kind o m x) j ≡ bit_at (after_as kind o n x) j
same_after Read o m n x j lawful is below same = same
same_after Write o m n x j lawful is below same = same_byte Write o m n x j (enabled_whole o x) same
same_after (Store Clr) o m n x j lawful is below same = same_made (λ a b. a * (1 - b)) MakesBits-clr o m n x j lawful below same
same_after (Store Eor) o m n x j lawful is below same = same_made (λ a b. (a + b) % 2) MakesBits-eor o m n x j lawful below same
same_after (Store Set) o m n x j lawful is below same = same_made (λ a b. max a b) MakesBits-set o m n x j lawful below same
same_after (Store _) o m n x j lawful is below same = absurd is
same_after (Load Clr) o m n x j lawful is below same = same_made (λ a b. a * (1 - b)) MakesBits-clr o m n x j lawful below same
same_after (Load Eor) o m n x j lawful is below same = same_made (λ a b. (a + b) % 2) MakesBits-eor o m n x j lawful below same
same_after (Load Set) o m n x j lawful is below same = same_made (λ a b. max a b) MakesBits-set o m n x j lawful below same
same_after (Load _) o m n x j lawful is below same = absurd is
same_after Swap o m n x j lawful is below same =
    same_byte Swap o m n x j (written_whole o (sent o.lanes (lane_of o.addr) o.len) x (length-sent o lawful)) same
same_after Compare o m n x j lawful is below same = absurd is

-- words with the same bit at a place leave the same bit there
pub bitwise_bit : (op : Operation) → IsLawful op.access → IsBitwise op.access.kind → (v w k : ℕ) → v < 2 ^ 64 → w < 2 ^ 64 → k < 64
    → bit_at v k ≡ bit_at w k → bit_at (next op v) k ≡ bit_at (next op w) k
bitwise_bit op lawful is v w k v_below w_below within same =
    bit_after op v k lawful within
    ∙ same_after op.access.kind op.access (here op v) (here op w) (byte_of op k) (k % 8) lawful is (omega arith)
    (sym (bit_here op v k v_below within) ∙ same ∙ bit_here op w k w_below within)
    ∙ sym (bit_after op w k lawful within)

-- of the bit that an exclusive or makes it makes the one that was there
back_made : (o : Access) (m n : Memory) (x j : ℕ) → IsLawful o → j < 8 → bit_at (n x) j ≡ bit_at (made (λ a b. (a + b) % 2) o m x) j
    → bit_at (made (λ a b. (a + b) % 2) o n x) j ≡ bit_at (m x) j
back_made o m n x j lawful below same = elim (made_bit (λ a b. (a + b) % 2) MakesBits-eor o x j lawful below) [
  | inl stays ↦ ap (λ b. bit_at b j) (stays n) ∙ same ∙ ap (λ b. bit_at b j) (stays m)
  | inr is_made ↦
      is_made n
      ∙ ap (λ b. (b + bit_at (sent_byte o x) j) % 2) (same ∙ is_made m)
      ∙ twice (bit_at (m x) j) (bit_at (sent_byte o x) j) (bit_at-lt (m x) j) (bit_at-lt (sent_byte o x) j)
]
  where
    twice : (a b : ℕ) → a < 2 → b < 2 → ((a + b) % 2 + b) % 2 ≡ a
    twice a b p q = omega (arith, p, q)

back_after : (kind : Kind) (o : Access) (m n : Memory) (x j : ℕ) → IsLawful o → IsEor kind → j < 8 → bit_at (n x) j ≡ bit_at (after_as kind o m x) j
    → bit_at (after_as kind o n x) j ≡ bit_at (m x) j
back_after (Store Eor) o m n x j lawful is below same = back_made o m n x j lawful below same
back_after (Load Eor) o m n x j lawful is below same = back_made o m n x j lawful below same
back_after _ o m n x j lawful is below same = absurd is

-- of a word with a bit that an exclusive or leaves it leaves the bit that was there
pub back_bit : (op : Operation) → IsLawful op.access → IsEor op.access.kind → (v w k : ℕ) → v < 2 ^ 64 → w < 2 ^ 64 → k < 64
    → bit_at v k ≡ bit_at (next op w) k → bit_at (next op v) k ≡ bit_at w k
back_bit op lawful is v w k v_below w_below within same =
    bit_after op v k lawful within
    ∙ back_after op.access.kind op.access (here op w) (here op v) (byte_of op k) (k % 8) lawful is (omega arith)
    (sym (bit_here op v k v_below within) ∙ same ∙ bit_after op w k lawful within)
    ∙ sym (bit_here op w k w_below within)

-- each bit of a word stays, or is written whatever it was
pub blind_bit : (op : Operation) → IsLawful op.access → IsBlind op.access.kind → (k : ℕ) → k < 64
    → ((w : ℕ) → w < 2 ^ 64 → bit_at (next op w) k ≡ bit_at w k) ⊎ ((v w : ℕ) → v < 2 ^ 64 → w < 2 ^ 64 → bit_at (next op v) k ≡ bit_at (next op w) k)
blind_bit op lawful is k within = elim (blind_byte op.access.kind op.access (byte_of op k) (k % 8) is lawful (omega arith)) [
  | inl stays ↦ inl (λ w below. bit_after op w k lawful within ∙ stays (here op w) ∙ sym (bit_here op w k below within))
  | inr same ↦ inr (λ v w _ _. bit_after op v k lawful within ∙ same (here op v) (here op w) ∙ sym (bit_after op w k lawful within))
]
