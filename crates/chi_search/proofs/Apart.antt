-- operands of one granule that have no byte in common
use Rattle.std.proofs.Common.{◌≡◌, ℕ, ◌+◌, ◌<◌, ◌≤◌, ◌⊎◌, sym, ◌∙◌, arith, inl, inr}
use Rattle.std.proofs.lemmas.Bool.{cases_lt}
use Rattle.chi_fields.specs.Access.{IsLawful, Access}
use Rattle.chi_lanes.specs.After.{after, old}
use Rattle.chi_lanes.specs.Memory.{Memory, granule_start}
use Rattle.chi_lanes.proofs.MemoryLemmas.{bytes_from-same}
use Rattle.chi_trace.specs.declared.operation.Operation.{Operation}
use Rattle.chi_trace.proofs.Agree.{after_as_byte, answer_as_of_old}
use Rattle.chi_search.specs.Commuting.{MovesBefore}
use Rattle.chi_search.proofs.CommutingPair.{pair}
use Rattle.chi_search.proofs.Written.{IsOutside, after_outside}

-- each byte of the first is outside the second
abbrev pub AreApart : Access → Access → Type 0
AreApart x z = (x.addr + x.len ≤ z.addr) ⊎ (z.addr + z.len ≤ x.addr)

turned : (x z : Access) → AreApart x z → AreApart z x
turned x z (inl before) = inr before
turned x z (inr after) = inl after

outside_of : (x z : Access) (y : ℕ) → AreApart x z → x.addr ≤ y → y < x.addr + x.len → IsOutside z y
outside_of x z y (inl before) above below = inl (omega (arith, before, below))
outside_of x z y (inr after) above below = inr (omega (arith, after, above))

-- the second leaves the old bytes of the first
same_old : (x z : Access) (m : Memory) → IsLawful z → AreApart x z → old x (after z m) ≡ old x m
same_old x z m lawful apart =
    bytes_from-same (after z m) m x.addr x.len (λ y above below. after_outside z.kind z m y lawful (outside_of x z y apart above below))

-- outside the second a byte is as the first leaves it, in either order
one_way : (x z : Access) (m : Memory) (y : ℕ) → IsLawful z → AreApart x z → IsOutside z y → after z (after x m) y ≡ after x (after z m) y
one_way x z m y lawful apart outside =
    after_outside z.kind z (after x m) y lawful outside
    ∙ sym (after_as_byte x.kind x (after z m) m y (same_old x z m lawful apart) (after_outside z.kind z m y lawful outside))

either_way : (x z : Access) (m : Memory) (y : ℕ) → IsLawful x → IsLawful z → AreApart x z → after z (after x m) y ≡ after x (after z m) y
either_way x z m y lawful_x lawful_z apart = elim (cases_lt y z.addr) [
  | inl below ↦ one_way x z m y lawful_z apart (inl below)
  | inr above ↦ elim (cases_lt y (z.addr + z.len)) [
    | inl inside ↦ sym (one_way z x m y lawful_x (turned x z apart) (outside_of z x y (turned x z apart) above inside))
    | inr past ↦ one_way x z m y lawful_z apart (inr past)
  ]
]

pub apart : (x z : Operation) → IsLawful x.access → IsLawful z.access → granule_start z.access.addr ≡ granule_start x.access.addr
    → AreApart x.access z.access → MovesBefore x z
apart x z lawful_x lawful_z here are = pair x z lawful_x lawful_z here (λ m _. record {
  answers_x = answer_as_of_old x.access.kind x.access (after z.access m) m (same_old x.access z.access m lawful_z are);
  answers_z = answer_as_of_old z.access.kind z.access (after x.access m) m (same_old z.access x.access m lawful_x (turned x.access z.access are));
  leave = λ y _ _. either_way x.access z.access m y lawful_x lawful_z are;
})
