-- what a reply with data tells of the words that the operation fits, and of those that it leaves
use Rattle.std.proofs.Common.{◌≡◌, ℕ, ◌+◌, ◌-◌, ◌/◌, ◌%◌, ◌^◌, ◌<◌, ◌≤◌, List, ◌++◌, Option, Some, IfSome, get_or, length, slice_index, take, replicate, refl, sym, ap, subst, ◌∙◌, arith, take_at, inl, inr}
use Rattle.std.specs.Int.{bit_at}
use Rattle.std.proofs.lemmas.Bool.{cases_lt}
use Rattle.std.proofs.lemmas.List.{append_cancel_left, get_or-append-add, get_or_append_left, length-replicate}
use Rattle.chi_fields.specs.declared.kind.Kind.{Kind}
use Rattle.chi_fields.specs.declared.kind.Kind.TheVariants.{Read, Write, Store, Load, Swap, Compare}
use Rattle.chi_fields.specs.Access.{IsLawful, Access, lane_of}
use Rattle.chi_lanes.specs.declared.reply.Reply.TheVariants.{CompData}
use Rattle.chi_lanes.specs.After.{after, answer_as, old}
use Rattle.chi_lanes.specs.Memory.{Memory, granule_start}
use Rattle.chi_lanes.specs.Packet.{in_lanes}
use Rattle.chi_lanes.proofs.AfterLemmas.{IsMemory-after}
use Rattle.chi_lanes.proofs.MemoryLemmas.{get_or-bytes_from, length-bytes_from}
use Rattle.chi_lanes.proofs.Operands.{placed}
use Rattle.chi_trace.specs.declared.operation.Operation.{Operation}
use Rattle.chi_trace.specs.Granules.{Fits, next, with_word}
use Rattle.chi_trace.proofs.Agree.{after_as_byte}
use Rattle.chi_trace.proofs.Steps.{IsMemory-with_word, word_at-with_word}
use Rattle.chi_search.specs.Effects.{IsInOperand}
use Rattle.chi_search.proofs.WordBits.{bit_of_word}
use Rattle.chi_search.proofs.Written.{IsOutside, after_outside}

-- data in lanes are of one list of a length
in_lanes-same : (l : ℕ) (xs ys : List ℕ) → length xs ≡ length ys → in_lanes l xs ≡ in_lanes l ys → xs ≡ ys
in_lanes-same l xs ys long same =
    let rest = append_cancel_left (replicate l 0) (xs ++ replicate (16 - l - length xs) 0) (ys ++ replicate (16 - l - length ys) 0) same in
    sym (take_at xs (replicate (16 - l - length xs) 0) (length ys) long)
    ∙ (ap (take (length ys)) rest ∙ take_at ys (replicate (16 - l - length ys) 0) (length ys) refl)

-- data tell the old bytes
olds_of : (o : Access) (m k : Memory) (bs : List ℕ) → CompData bs ≡ CompData (in_lanes (lane_of o.addr) (old o m))
    → CompData bs ≡ CompData (in_lanes (lane_of o.addr) (old o k))
    → old o m ≡ old o k
olds_of o m k bs first second =
    let same : in_lanes (lane_of o.addr) (old o m) ≡ in_lanes (lane_of o.addr) (old o k) = cc in
    in_lanes-same (lane_of o.addr) (old o m) (old o k) (length-bytes_from m o.addr o.len ∙ sym (length-bytes_from k o.addr o.len)) same

-- so do those of an answer of any kind
olds_as : (kind : Kind) (o : Access) (m k : Memory) (bs : List ℕ) → CompData bs ≡ answer_as kind o m → CompData bs ≡ answer_as kind o k
    → old o m ≡ old o k
olds_as Read o m k bs first second = olds_of o m k bs first second
olds_as Write o m k bs first second = cc
olds_as (Store op) o m k bs first second = cc
olds_as (Load op) o m k bs first second = olds_of o m k bs first second
olds_as Swap o m k bs first second = olds_of o m k bs first second
olds_as Compare o m k bs first second = olds_of o m k bs first second

-- the memory that has a word in the operation's granule
abbrev pub here : Operation → ℕ → Memory
here op w = with_word (granule_start op.access.addr) w

-- the address of the byte of a bit of that word
abbrev pub byte_of : Operation → ℕ → ℕ
byte_of op k = granule_start op.access.addr + k / 8

some_of : {R : Type 0} (P : R → Type 0) (seen : Option R) → IfSome seen P → (r : R) → seen ≡ Some r → P r
some_of P seen if_some r is = subst (λ o. IfSome o P) is if_some

-- of two words that it fits
olds : (op : Operation) (bs : List ℕ) → op.reply ≡ Some (CompData bs) → (w v : ℕ) → Fits op w → Fits op v
    → old op.access (here op w) ≡ old op.access (here op v)
unfolding Fits
olds op bs held w v fits v_fits =
    olds_as op.access.kind op.access (here op w) (here op v) bs
    (some_of (λ reply. reply ≡ answer_as op.access.kind op.access (here op w)) op.reply fits (CompData bs) held)
    (some_of (λ reply. reply ≡ answer_as op.access.kind op.access (here op v)) op.reply v_fits (CompData bs) held)

-- a byte of the operand
old_byte : (o : Access) (m k : Memory) (x : ℕ) → old o m ≡ old o k → o.addr ≤ x → x < o.addr + o.len → m x ≡ k x
old_byte o m k x same above below =
    let at : o.addr + (x - o.addr) ≡ x = omega arith in
    let within : x - o.addr < o.len = omega arith in
    ap m (sym at) ∙ (sym (get_or-bytes_from m o.addr o.len (x - o.addr) within)
    ∙ (ap (λ bs. get_or bs (x - o.addr) 0) same ∙ (get_or-bytes_from k o.addr o.len (x - o.addr) within ∙ ap k at)))

-- a bit of the operand is one of the word
pub in_word : (o : Access) (k : ℕ) → IsLawful o → IsInOperand o k → k < 64
in_word o k lawful inside =
    let place = placed o.addr o.len lawful.part lawful.aligned in
    omega (arith, place.at, place.room, inside.1)

-- a bit of a word, and of the word that the operation leaves of it
pub bit_here : (op : Operation) (w k : ℕ) → w < 2 ^ 64 → k < 64 → bit_at w k ≡ bit_at (here op w (byte_of op k)) (k % 8)
bit_here op w k below inside =
    ap (λ n. bit_at n k) (sym (word_at-with_word (granule_start op.access.addr) w below))
    ∙ bit_of_word (here op w) (IsMemory-with_word _ w) (granule_start op.access.addr) k inside

pub bit_after : (op : Operation) (w k : ℕ) → IsLawful op.access → k < 64
    → bit_at (next op w) k ≡ bit_at (after op.access (here op w) (byte_of op k)) (k % 8)
unfolding next
bit_after op w k lawful inside =
    bit_of_word (after op.access (here op w)) (IsMemory-after op.access (here op w) (IsMemory-with_word _ w) lawful) (granule_start op.access.addr) k inside

-- two words that the operation fits have the same operand
pub same_found : (op : Operation) (bs : List ℕ) → IsLawful op.access → op.reply ≡ Some (CompData bs) → (w v : ℕ) → w < 2 ^ 64 → v < 2 ^ 64
    → Fits op w → Fits op v
    → (k : ℕ) → IsInOperand op.access k → bit_at w k ≡ bit_at v k
same_found op bs lawful held w v below v_below fits v_fits k inside =
    let within : k < 64 = in_word op.access k lawful inside in
    bit_here op w k below within
    ∙ ap (λ b. bit_at b (k % 8)) (old_byte op.access (here op w) (here op v) (byte_of op k) (olds op bs held w v fits v_fits) inside.0 inside.1)
    ∙ sym (bit_here op v k v_below within)

-- and it leaves the same operand of each
pub same_left : (op : Operation) (bs : List ℕ) → IsLawful op.access → op.reply ≡ Some (CompData bs) → (w v : ℕ) → Fits op w → Fits op v
    → (k : ℕ) → IsInOperand op.access k → bit_at (next op w) k ≡ bit_at (next op v) k
same_left op bs lawful held w v fits v_fits k inside =
    let within : k < 64 = in_word op.access k lawful inside in
    let same = olds op bs held w v fits v_fits in
    bit_after op w k lawful within
    ∙ ap (λ b. bit_at b (k % 8)) (after_as_byte op.access.kind op.access (here op w) (here op v) (byte_of op k) same
    (old_byte op.access (here op w) (here op v) (byte_of op k) same inside.0 inside.1))
    ∙ sym (bit_after op v k lawful within)

-- an operation changes no bit out of its operand
pub kept_outside : (op : Operation) → IsLawful op.access → (w k : ℕ) → w < 2 ^ 64 → k < 64 → (IsInOperand op.access k → ⊥)
    → bit_at (next op w) k ≡ bit_at w k
kept_outside op lawful w k below within outside =
    bit_after op w k lawful within
    ∙ ap (λ b. bit_at b (k % 8)) (after_outside op.access.kind op.access (here op w) (byte_of op k) lawful apart)
    ∙ sym (bit_here op w k below within)
  where
    apart : IsOutside op.access (byte_of op k)
    apart = elim (cases_lt (byte_of op k) op.access.addr) [
      | inl below ↦ inl below
      | inr above ↦ elim (cases_lt (byte_of op k) (op.access.addr + op.access.len)) [
        | inl inside ↦ absurd (outside (above, inside))
        | inr past ↦ inr past
      ]
    ]

-- a byte of data in the lanes
lane_at : (l i : ℕ) (bs : List ℕ) → i < length bs → slice_index (in_lanes l bs) (l + i) ≡ get_or bs i 0
lane_at l i bs within =
    let shifted : get_or (in_lanes l bs) (length (replicate l 0) + i) 0 ≡ get_or (bs ++ replicate (16 - l - length bs) 0) i 0 =
    get_or-append-add (replicate l 0) (bs ++ replicate (16 - l - length bs) 0) i 0 in
    ap (λ n. get_or (in_lanes l bs) (n + i) 0) (sym (length-replicate l 0)) ∙ shifted ∙ get_or_append_left bs (replicate (16 - l - length bs) 0) 0 i within

-- the data of an answer of any kind are the old bytes
data_of : (kind : Kind) (o : Access) (m : Memory) (bs : List ℕ) → CompData bs ≡ answer_as kind o m → bs ≡ in_lanes (lane_of o.addr) (old o m)
data_of Read o m bs is = cc
data_of Write o m bs is = cc
data_of (Store op) o m bs is = cc
data_of (Load op) o m bs is = cc
data_of Swap o m bs is = cc
data_of Compare o m bs is = cc

-- a word that it fits has the bits of the reply in the operand
pub fits_data : (op : Operation) (bs : List ℕ) → IsLawful op.access → op.reply ≡ Some (CompData bs) → (w : ℕ) → w < 2 ^ 64 → Fits op w
    → (k : ℕ) → IsInOperand op.access k → bit_at (slice_index bs (lane_of (byte_of op k))) (k % 8) ≡ bit_at w k
unfolding Fits
fits_data op bs lawful held w below fits k inside =
    let o = op.access in
    let place = placed o.addr o.len lawful.part lawful.aligned in
    let i : ℕ = byte_of op k - o.addr in
    let within : i < o.len = omega (arith, inside.0, inside.1) in
    let lane : lane_of (byte_of op k) ≡ lane_of o.addr + i = omega (arith, place.packet, inside.0, inside.1) in
    let lanes : bs ≡ in_lanes (lane_of o.addr) (old o (here op w)) =
    data_of o.kind o (here op w) bs (some_of (λ reply. reply ≡ answer_as o.kind o (here op w)) op.reply fits (CompData bs) held) in
    let at : o.addr + i ≡ byte_of op k = omega (arith, inside.0) in
    let byte : slice_index bs (lane_of (byte_of op k)) ≡ here op w (byte_of op k) =
    ap (slice_index bs) lane ∙ ap (λ l. slice_index l (lane_of o.addr + i)) lanes
    ∙ lane_at (lane_of o.addr) i (old o (here op w)) (omega (arith, within, length-bytes_from (here op w) o.addr o.len))
    ∙ get_or-bytes_from (here op w) o.addr o.len i within ∙ ap (here op w) at in
    ap (λ b. bit_at b (k % 8)) byte ∙ sym (bit_here op w k below (in_word o k lawful inside))
