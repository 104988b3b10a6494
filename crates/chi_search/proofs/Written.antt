-- the bytes that an operation leaves
use Rattle.std.proofs.Common.{◌≡◌, ℕ, zero, suc, ◌+◌, ◌-◌, ◌*◌, ◌<◌, ◌≤◌, max, ◌⊎◌, Bool, true, false, cond, List, length, slice_index, refl, sym, ap, ◌∙◌, arith, inl, inr}
use Rattle.std.specs.Int.{bit_at}
use Rattle.std.proofs.lemmas.Bool.{cases_lt}
use Rattle.std.proofs.lemmas.Nat.Bits.{bit_at-lt}
use Rattle.chi_fields.specs.declared.kind.Kind.{Kind}
use Rattle.chi_fields.specs.declared.kind.Kind.TheVariants.{Read, Write, Store, Load, Swap, Compare}
use Rattle.chi_fields.specs.declared.kind.Op.TheVariants.{Clr, Set}
use Rattle.chi_fields.specs.Access.{IsLawful, Access, lane_of}
use Rattle.chi_lanes.specs.After.{after_as, old, same_bytes}
use Rattle.chi_lanes.specs.Combination.{bitwise}
use Rattle.chi_lanes.specs.Memory.{Memory, with_bytes}
use Rattle.chi_lanes.specs.Packet.{sent, swap_value}
use Rattle.chi_lanes.proofs.AfterLemmas.{length-combined, length-sent, length-swap_value}
use Rattle.chi_lanes.proofs.BitwiseLemmas.{length-bitwise}
use Rattle.chi_lanes.proofs.MemoryLemmas.{get_or-bytes_from, length-bytes_from, with_bytes-inside, with_bytes-outside, with_enabled-off, with_enabled-on, with_enabled-outside}
use Rattle.chi_search.specs.Effects.{IsBlind}
use Rattle.chi_search.proofs.Spelled.{MakesBits, MakesBits-clr, MakesBits-set, spelled_byte}

-- the byte is none of the operand
abbrev pub IsOutside : Access → ℕ → Type 0
IsOutside o x = (x < o.addr) ⊎ (o.addr + o.len ≤ x)

-- a byte out of the operand stays
written_outside : (o : Access) (m : Memory) (bs : List ℕ) (x : ℕ) → length bs ≡ o.len → IsOutside o x → with_bytes m o.addr bs x ≡ m x
written_outside o m bs x long (inl below) = with_bytes-outside m o.addr bs x (inl below)
written_outside o m bs x long (inr above) = with_bytes-outside m o.addr bs x (inr (rw long above))

pub after_outside : (kind : Kind) (o : Access) (m : Memory) (x : ℕ) → IsLawful o → IsOutside o x → after_as kind o m x ≡ m x
after_outside Read o m x lawful outside = refl
after_outside Write o m x lawful outside = with_enabled-outside o.lanes o.enables m o.addr o.len x outside
after_outside (Store op) o m x lawful outside = written_outside o m _ x (length-combined op o m lawful) outside
after_outside (Load op) o m x lawful outside = written_outside o m _ x (length-combined op o m lawful) outside
after_outside Swap o m x lawful outside = written_outside o m _ x (length-sent o lawful) outside
after_outside Compare o m x lawful outside = by_test (same_bytes (old o m) (sent o.lanes (lane_of o.addr) o.len))
  where
    swapped : List ℕ
    swapped = swap_value o.lanes (lane_of o.addr) o.len

    lane_below : lane_of o.addr < 16
    lane_below = omega arith

    by_test : (b : Bool) → cond b (with_bytes m o.addr swapped) m x ≡ m x
    by_test true = written_outside o m swapped x (length-swap_value o.lanes (lane_of o.addr) o.len lawful.packet lawful.part lane_below) outside
    by_test false = refl

-- a byte stays in each memory, or is the same after each
abbrev pub StaysOrIs : Kind → Access → ℕ → Type 0
StaysOrIs kind o x = ((m : Memory) → after_as kind o m x ≡ m x) ⊎ ((m k : Memory) → after_as kind o m x ≡ after_as kind o k x)

pub written_whole : (o : Access) (bs : List ℕ) (x : ℕ) → length bs ≡ o.len
    → ((m : Memory) → with_bytes m o.addr bs x ≡ m x) ⊎ ((m k : Memory) → with_bytes m o.addr bs x ≡ with_bytes k o.addr bs x)
written_whole o bs x long = elim (cases_lt x o.addr) [
  | inl below ↦ inl (λ m. with_bytes-outside m o.addr bs x (inl below))
  | inr above ↦ elim (cases_lt x (o.addr + length bs)) [
    | inl inside ↦ inr (λ m k. with_bytes-inside m o.addr bs x above inside ∙ sym (with_bytes-inside k o.addr bs x above inside))
    | inr past ↦ inl (λ m. with_bytes-outside m o.addr bs x (inr past))
  ]
]

pub enabled_whole : (o : Access) (x : ℕ) → StaysOrIs Write o x
enabled_whole o x = elim (cases_lt x o.addr) [
  | inl below ↦ inl (λ m. with_enabled-outside o.lanes o.enables m o.addr o.len x (inl below))
  | inr above ↦ elim (cases_lt x (o.addr + o.len)) [
    | inl inside ↦ by_bit (cases_lt 0 (bit_at o.enables (lane_of x))) above inside
    | inr past ↦ inl (λ m. with_enabled-outside o.lanes o.enables m o.addr o.len x (inr past))
  ]
]
  where
    by_bit : (0 < bit_at o.enables (lane_of x)) ⊎ (bit_at o.enables (lane_of x) ≤ 0) → o.addr ≤ x → x < o.addr + o.len → StaysOrIs Write o x
    by_bit (inl some) above inside =
        let on : bit_at o.enables (lane_of x) ≡ 1 = omega (arith, some, bit_at-lt o.enables (lane_of x)) in
        inr (λ m k. with_enabled-on o.lanes o.enables m o.addr o.len x above inside on ∙ sym (with_enabled-on o.lanes o.enables k o.addr o.len x above inside on))
    by_bit (inr none) above inside =
        let off : bit_at o.enables (lane_of x) ≡ 0 = omega (arith, none) in
        inl (λ m. with_enabled-off o.lanes o.enables m o.addr o.len x off)

-- the memory whose operand is made bit by bit of the old bytes and the sent ones
abbrev pub made : (ℕ → ℕ → ℕ) → Access → Memory → Memory
made f o m = with_bytes m o.addr (bitwise f (old o m) (sent o.lanes (lane_of o.addr) o.len))

-- the byte that is sent for an address
abbrev pub sent_byte : Access → ℕ → ℕ
sent_byte o x = slice_index (sent o.lanes (lane_of o.addr) o.len) (x - o.addr)

-- what is made is as long as the operand
length-made : (f : ℕ → ℕ → ℕ) (o : Access) (m : Memory) → IsLawful o → length (bitwise f (old o m) (sent o.lanes (lane_of o.addr) o.len)) ≡ o.len
length-made f o m lawful =
    length-bitwise f (old o m) (sent o.lanes (lane_of o.addr) o.len) (length-bytes_from m o.addr o.len ∙ sym (length-sent o lawful))
    ∙ length-bytes_from m o.addr o.len

-- a bit of the operand is made of the old one and the sent one
made_inside : (f : ℕ → ℕ → ℕ) → MakesBits f → (o : Access) (m : Memory) (x j : ℕ) → IsLawful o → o.addr ≤ x → x < o.addr + o.len → j < 8
    → bit_at (made f o m x) j ≡ f (bit_at (m x) j) (bit_at (sent_byte o x) j)
made_inside f is o m x j lawful above inside below =
    let place : o.addr + (x - o.addr) ≡ x = omega (arith, above) in
    let in_operand : x - o.addr < o.len = omega (arith, above, inside) in
    let in_old : x - o.addr < length (old o m) = omega (arith, in_operand, length-bytes_from m o.addr o.len) in
    let in_sent : x - o.addr < length (sent o.lanes (lane_of o.addr) o.len) = omega (arith, in_operand, length-sent o lawful) in
    let in_made : x < o.addr + length (bitwise f (old o m) (sent o.lanes (lane_of o.addr) o.len)) = omega (arith, inside, length-made f o m lawful) in
    ap (λ b. bit_at b j) (with_bytes-inside m o.addr (bitwise f (old o m) (sent o.lanes (lane_of o.addr) o.len)) x above in_made)
    ∙ spelled_byte f is (old o m) (sent o.lanes (lane_of o.addr) o.len) (x - o.addr) j in_old in_sent below
    ∙ ap (λ b. f (bit_at b j) (bit_at (sent_byte o x) j)) (get_or-bytes_from m o.addr o.len (x - o.addr) in_operand ∙ ap m place)

-- so a byte stays, or each bit of it is made of the old one and the sent one
pub made_bit : (f : ℕ → ℕ → ℕ) → MakesBits f → (o : Access) (x j : ℕ) → IsLawful o → j < 8
    → ((m : Memory) → made f o m x ≡ m x) ⊎ ((m : Memory) → bit_at (made f o m x) j ≡ f (bit_at (m x) j) (bit_at (sent_byte o x) j))
made_bit f is o x j lawful below = elim (cases_lt x o.addr) [
  | inl under ↦ inl (λ m. written_outside o m _ x (length-made f o m lawful) (inl under))
  | inr above ↦ elim (cases_lt x (o.addr + o.len)) [
    | inl inside ↦ inr (λ m. made_inside f is o m x j lawful above inside below)
    | inr past ↦ inl (λ m. written_outside o m _ x (length-made f o m lawful) (inr past))
  ]
]

-- a bit of a byte stays in each memory, or is the same after each
abbrev pub BitStaysOrIs : Kind → Access → ℕ → ℕ → Type 0
BitStaysOrIs kind o x j =
    ((m : Memory) → bit_at (after_as kind o m x) j ≡ bit_at (m x) j)
    ⊎ ((m k : Memory) → bit_at (after_as kind o m x) j ≡ bit_at (after_as kind o k x) j)

-- so do the bits of a byte that does
of_byte : (kind : Kind) (o : Access) (x j : ℕ) → StaysOrIs kind o x → BitStaysOrIs kind o x j
of_byte kind o x j (inl stays) = inl (λ m. ap (λ b. bit_at b j) (stays m))
of_byte kind o x j (inr same) = inr (λ m k. ap (λ b. bit_at b j) (same m k))

-- by the sent bit the operation on bits keeps the old one, or makes the same of each
abbrev EachBit : (ℕ → ℕ → ℕ) → Type 0
EachBit f = (b : ℕ) → b < 2 → ((a : ℕ) → a < 2 → f a b ≡ a) ⊎ ((a c : ℕ) → a < 2 → c < 2 → f a b ≡ f c b)

clears_each : EachBit (λ a b. a * (1 - b))
clears_each zero fits = inl (λ a p. omega arith)
clears_each (suc zero) fits = inr (λ a c p q. omega arith)
clears_each (suc (suc b)) fits = absurd (omega (arith, fits))

sets_each : EachBit (λ a b. max a b)
sets_each zero fits = inl (λ a p. omega arith)
sets_each (suc zero) fits = inr (λ a c p q. omega (arith, p, q))
sets_each (suc (suc b)) fits = absurd (omega (arith, fits))

-- each bit of a byte that is made by such an operation stays, or is the same after each
made_each : (f : ℕ → ℕ → ℕ) → MakesBits f → EachBit f → (o : Access) (x j : ℕ) → IsLawful o → j < 8
    → ((m : Memory) → bit_at (made f o m x) j ≡ bit_at (m x) j) ⊎ ((m k : Memory) → bit_at (made f o m x) j ≡ bit_at (made f o k x) j)
made_each f is each o x j lawful below = elim (made_bit f is o x j lawful below) [
  | inl stays ↦ inl (λ m. ap (λ b. bit_at b j) (stays m))
  | inr is_made ↦ elim (each (bit_at (sent_byte o x) j) (bit_at-lt (sent_byte o x) j)) [
    | inl keeps ↦ inl (λ m. is_made m ∙ keeps (bit_at (m x) j) (bit_at-lt (m x) j))
    | inr same ↦ inr (λ m k. is_made m ∙ same (bit_at (m x) j) (bit_at (k x) j) (bit_at-lt (m x) j) (bit_at-lt (k x) j) ∙ sym (is_made k))
  ]
]

-- and of each byte, after an operation of a kind that is blind
pub blind_byte : (kind : Kind) (o : Access) (x j : ℕ) → IsBlind kind → IsLawful o → j < 8 → BitStaysOrIs kind o x j
blind_byte Read o x j blind lawful below = inl (λ m. refl)
blind_byte Write o x j blind lawful below = of_byte Write o x j (enabled_whole o x)
blind_byte (Store Clr) o x j blind lawful below = made_each (λ a b. a * (1 - b)) MakesBits-clr clears_each o x j lawful below
blind_byte (Store Set) o x j blind lawful below = made_each (λ a b. max a b) MakesBits-set sets_each o x j lawful below
blind_byte (Store _) o x j blind lawful below = absurd blind
blind_byte (Load Clr) o x j blind lawful below = made_each (λ a b. a * (1 - b)) MakesBits-clr clears_each o x j lawful below
blind_byte (Load Set) o x j blind lawful below = made_each (λ a b. max a b) MakesBits-set sets_each o x j lawful below
blind_byte (Load _) o x j blind lawful below = absurd blind
blind_byte Swap o x j blind lawful below = of_byte Swap o x j (written_whole o (sent o.lanes (lane_of o.addr) o.len) x (length-sent o lawful))
blind_byte Compare o x j blind lawful below = absurd blind
