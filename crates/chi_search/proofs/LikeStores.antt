-- two stores of one kind on one operand
use Rattle.std.proofs.Common.{◌≡◌, ℕ, ◌+◌, ◌≤◌, Bool, List, length, refl, sym, ap, ◌∙◌, arith, inl, inr}
use Rattle.std.proofs.lemmas.Bool.{cases_lt}
use Rattle.chi_fields.specs.declared.kind.Kind.TheVariants.{Store}
use Rattle.chi_fields.specs.declared.kind.Op.{Op}
use Rattle.chi_fields.specs.Access.{IsLawful, IsLen, Access, lane_of}
use Rattle.chi_lanes.specs.After.{after, after_as, answer, answer_as}
use Rattle.chi_lanes.specs.Bytes.{AreBytes}
use Rattle.chi_lanes.specs.Combination.{combine}
use Rattle.chi_lanes.specs.Memory.{Memory, IsMemory, bytes_from, granule_start, with_bytes}
use Rattle.chi_lanes.specs.Packet.{sent}
use Rattle.chi_lanes.proofs.AfterLemmas.{length-sent}
use Rattle.chi_lanes.proofs.ByteLists.{AreBytes-slice_range}
use Rattle.chi_lanes.proofs.CombineLemmas.{length-combine}
use Rattle.chi_lanes.proofs.MemoryLemmas.{AreBytes-bytes_from, bytes_from-with_bytes, length-bytes_from, with_bytes-inside, with_bytes-outside}
use Rattle.chi_trace.specs.declared.operation.Operation.{Operation}
use Rattle.chi_search.specs.Commuting.{MovesBefore}
use Rattle.chi_search.proofs.Combining.{combines}
use Rattle.chi_search.proofs.CommutingPair.{pair}

-- bytes that were written over others of the same number
written_over : (m : Memory) (addr : ℕ) (bs cs : List ℕ) (y : ℕ) → length bs ≡ length cs
    → with_bytes (with_bytes m addr bs) addr cs y ≡ with_bytes m addr cs y
written_over m addr bs cs y long = elim (cases_lt y addr) [
  | inl below ↦ with_bytes-outside (with_bytes m addr bs) addr cs y (inl below) ∙ with_bytes-outside m addr bs y (inl below)
      ∙ sym (with_bytes-outside m addr cs y (inl below))
  | inr above ↦ elim (cases_lt y (addr + length cs)) [
    | inl inside ↦ with_bytes-inside (with_bytes m addr bs) addr cs y above inside ∙ sym (with_bytes-inside m addr cs y above inside)
    | inr past ↦ with_bytes-outside (with_bytes m addr bs) addr cs y (inr past) ∙ with_bytes-outside m addr bs y (inr (rw long past))
        ∙ sym (with_bytes-outside m addr cs y (inr past))
  ]
]

-- the memory after a store of an operation
abbrev pub stored : Op → Bool → ℕ → ℕ → List ℕ → Memory → Memory
stored op endian addr len s m = with_bytes m addr (combine op endian (bytes_from m addr len) s)

-- a store over a store
twice : (op : Op) (endian : Bool) (addr len : ℕ) (s t : List ℕ) (m : Memory) (y : ℕ) → length s ≡ len → length t ≡ len
    → stored op endian addr len t (stored op endian addr len s m) y
    ≡ with_bytes m addr (combine op endian (combine op endian (bytes_from m addr len) s) t) y
twice op endian addr len s t m y long_s long_t =
    ap (λ cs. with_bytes (with_bytes m addr bs) addr (combine op endian cs t) y)
    (ap (bytes_from (with_bytes m addr bs) addr) (sym long) ∙ bytes_from-with_bytes m addr bs)
    ∙ written_over m addr bs (combine op endian bs t) y (sym (length-combine op endian bs t (long ∙ sym long_t)))
  where
    bs : List ℕ
    bs = combine op endian (bytes_from m addr len) s

    long : length bs ≡ len
    long = length-combine op endian (bytes_from m addr len) s (length-bytes_from m addr len ∙ sym long_s) ∙ length-bytes_from m addr len

either_first : (op : Op) (endian : Bool) (addr len : ℕ) (s t : List ℕ) (m : Memory) (y : ℕ) → length s ≡ len → length t ≡ len → 1 ≤ len → AreBytes s
    → AreBytes t → IsMemory m
    → stored op endian addr len t (stored op endian addr len s m) y ≡ stored op endian addr len s (stored op endian addr len t m) y
either_first op endian addr len s t m y long_s long_t some is_s is_t is =
    let long = length-bytes_from m addr len in
    twice op endian addr len s t m y long_s long_t
    ∙ ap (λ bs. with_bytes m addr bs y)
    (combines op endian (bytes_from m addr len) s t (AreBytes-bytes_from m is addr len) is_s is_t
    (long_s ∙ sym long) (long_t ∙ sym long) (rw long some))
    ∙ sym (twice op endian addr len t s m y long_t long_s)

-- the data that an access sends
abbrev pub sent_by : Access → List ℕ
sent_by o = sent o.lanes (lane_of o.addr) o.len

pub bytes_sent : (o : Access) → IsLawful o → AreBytes (sent_by o)
bytes_sent o lawful = AreBytes-slice_range o.lanes (lane_of o.addr) (lane_of o.addr + o.len) lawful.bytes

-- an access that is a store on an operand
record Stores (op : Op) (big : Bool) (start count : ℕ) (o : Access) : Type 0 where
  kind : o.kind ≡ Store op
  endian : o.endian ≡ big
  addr : o.addr ≡ start
  len : o.len ≡ count

as_stored : (op : Op) (endian : Bool) (addr len : ℕ) (o : Access) (m : Memory) → Stores op endian addr len o
    → after o m ≡ stored op endian addr len (sent_by o) m
as_stored op endian addr len o m is = ap (λ kind. after_as kind o m) is.kind ∙ (λ i. stored op (is.endian i) (is.addr i) (is.len i) (sent_by o) m)

both_stored : (op : Op) (endian : Bool) (addr len : ℕ) (x z : Access) (m : Memory) → Stores op endian addr len x → Stores op endian addr len z
    → after z (after x m) ≡ stored op endian addr len (sent_by z) (stored op endian addr len (sent_by x) m)
both_stored op endian addr len x z m is_x is_z =
    as_stored op endian addr len z (after x m) is_z ∙ ap (stored op endian addr len (sent_by z)) (as_stored op endian addr len x m is_x)

-- its reply has no data
same_reply : (op : Op) (o : Access) (m k : Memory) → o.kind ≡ Store op → answer o m ≡ answer o k
same_reply op o m k is = ap (λ kind. answer_as kind o m) is ∙ sym (ap (λ kind. answer_as kind o k) is)

pub like_stores : (op : Op) (x z : Operation) → IsLawful x.access → IsLawful z.access → x.access.kind ≡ Store op → z.access.kind ≡ Store op
    → x.access.addr ≡ z.access.addr → x.access.len ≡ z.access.len → x.access.endian ≡ z.access.endian → MovesBefore x z
like_stores op x z lawful_x lawful_z store_x store_z addr len endian = pair x z lawful_x lawful_z (ap granule_start (sym addr)) (λ m is. record {
  answers_x = same_reply op o (after k m) m store_x;
  answers_z = same_reply op k (after o m) m store_z;
  leave = λ y _ _.
      ap (λ (n : Memory). n y) (both_stored op o.endian o.addr o.len o k m first second)
      ∙ either_first op o.endian o.addr o.len (sent_by o) (sent_by k) m y
      (length-sent o lawful_x) (length-sent k lawful_z ∙ sym len) (some o.len lawful_x.part)
      (bytes_sent o lawful_x) (bytes_sent k lawful_z) is
      ∙ sym (ap (λ (n : Memory). n y) (both_stored op o.endian o.addr o.len k o m second first));
})
  where
    o : Access
    o = x.access

    k : Access
    k = z.access

    first : Stores op o.endian o.addr o.len o
    first = record { kind = store_x; endian = refl; addr = refl; len = refl }

    second : Stores op o.endian o.addr o.len k
    second = record { kind = store_z; endian = sym endian; addr = sym addr; len = sym len }

    some : (len : ℕ) → IsLen len → 1 ≤ len
    some len part = grind arith
