-- two writes of one granule that agree on each byte that both write
use Rattle.std.proofs.Common.{◌≡◌, ℕ, ◌+◌, ◌<◌, ◌≤◌, ◌⊎◌, sym, ap, ◌∙◌, arith, inl, inr, slice_index}
use Rattle.std.specs.Int.{bit_at}
use Rattle.std.proofs.lemmas.Bool.{cases_lt}
use Rattle.std.proofs.lemmas.Nat.Bits.{bit_at-lt}
use Rattle.chi_fields.specs.declared.kind.Kind.TheVariants.{Write}
use Rattle.chi_fields.specs.Access.{Access, IsLawful, lane_of}
use Rattle.chi_lanes.specs.After.{after, after_as, answer, answer_as}
use Rattle.chi_lanes.specs.Memory.{Memory, granule_start, with_enabled}
use Rattle.chi_lanes.proofs.MemoryLemmas.{with_enabled-off, with_enabled-on, with_enabled-outside}
use Rattle.chi_trace.specs.declared.operation.Operation.{Operation}
use Rattle.chi_search.specs.Commuting.{AgreeWhereShared, MovesBefore}
use Rattle.chi_search.proofs.CommutingPair.{pair}

-- the access writes the byte
record Writes (o : Access) (y : ℕ) : Type 0 where
  from : o.addr ≤ y
  to : y < o.addr + o.len
  enabled : bit_at o.enables (lane_of y) ≡ 1

-- the memory after a write
abbrev written : Access → Memory → Memory
written o m = with_enabled o.lanes o.enables m o.addr o.len

-- a byte is written, to what the packet has, or stays
record Stays (o : Access) (y : ℕ) : Type 0 where
  stays : (m : Memory) → written o m y ≡ m y

writes_or : (o : Access) (y : ℕ) → Writes o y ⊎ Stays o y
writes_or o y = elim (cases_lt y o.addr) [
  | inl below ↦ inr (record { stays = λ m. with_enabled-outside o.lanes o.enables m o.addr o.len y (inl below) })
  | inr above ↦ elim (cases_lt y (o.addr + o.len)) [
    | inl inside ↦ elim (cases_lt (bit_at o.enables (lane_of y)) 1) [
      | inl none ↦ inr (record { stays = λ m. with_enabled-off o.lanes o.enables m o.addr o.len y (omega (arith, none)) })
      | inr some ↦ inl (record { from = above; to = inside; enabled = omega (arith, some, bit_at-lt o.enables (lane_of y)) })
    ]
    | inr past ↦ inr (record { stays = λ m. with_enabled-outside o.lanes o.enables m o.addr o.len y (inr past) })
  ]
]

has_data : (o : Access) (y : ℕ) (m : Memory) → Writes o y → written o m y ≡ slice_index o.lanes (lane_of y)
has_data o y m is = with_enabled-on o.lanes o.enables m o.addr o.len y is.from is.to is.enabled

either_first : (x z : Access) (m : Memory) (y : ℕ) → AgreeWhereShared x z → written z (written x m) y ≡ written x (written z m) y
either_first x z m y agree = elim (writes_or x y) [
  | inl by_x ↦ elim (writes_or z y) [
    | inl by_z ↦
        let lane : lane_of y < 16 = omega arith in
        has_data z y (written x m) by_z ∙ sym (agree (lane_of y) lane by_x.enabled by_z.enabled) ∙ sym (has_data x y (written z m) by_x)
    | inr by_none ↦ by_none.stays (written x m) ∙ has_data x y m by_x ∙ sym (has_data x y (written z m) by_x)
  ]
  | inr by_none ↦ elim (writes_or z y) [
    | inl by_z ↦ has_data z y (written x m) by_z ∙ sym (by_none.stays (written z m) ∙ has_data z y m by_z)
    | inr neither ↦ neither.stays (written x m) ∙ by_none.stays m ∙ sym (by_none.stays (written z m) ∙ neither.stays m)
  ]
]

as_written : (o : Access) (m : Memory) → o.kind ≡ Write → after o m ≡ written o m
as_written o m is = ap (λ kind. after_as kind o m) is

both_written : (x z : Access) (m : Memory) → x.kind ≡ Write → z.kind ≡ Write → after z (after x m) ≡ written z (written x m)
both_written x z m is_x is_z = as_written z (after x m) is_z ∙ ap (written z) (as_written x m is_x)

-- a write's reply has no data
same_reply : (o : Access) (m k : Memory) → o.kind ≡ Write → answer o m ≡ answer o k
same_reply o m k is = ap (λ kind. answer_as kind o m) is ∙ sym (ap (λ kind. answer_as kind o k) is)

pub agreeing_writes : (x z : Operation) → IsLawful x.access → IsLawful z.access → x.access.kind ≡ Write → z.access.kind ≡ Write
    → granule_start z.access.addr ≡ granule_start x.access.addr → AgreeWhereShared x.access z.access → MovesBefore x z
agreeing_writes x z lawful_x lawful_z is_x is_z here agree = pair x z lawful_x lawful_z here (λ m _. record {
  answers_x = same_reply x.access (after z.access m) m is_x;
  answers_z = same_reply z.access (after x.access m) m is_z;
  leave = λ y _ _.
      ap (λ (n : Memory). n y) (both_written x.access z.access m is_x is_z) ∙ either_first x.access z.access m y agree
      ∙ sym (ap (λ (n : Memory). n y) (both_written z.access x.access m is_z is_x));
})
