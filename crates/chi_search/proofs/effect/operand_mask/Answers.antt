-- the bits of the operand's bytes are those of its lanes
use Rattle.std.proofs.Common.{◌≡◌, ℕ, ◌-◌, ◌*◌, ◌^◌, ◌%◌, ◌↔◌, ap, ◌∙◌, arith, sym, refl}
use Rattle.std.specs.Int.{bit_at}
use Rattle.chi_fields.specs.Access.{Access, IsLawful}
use Rattle.chi_lanes.proofs.Operands.{placed}
use Rattle.chi_search.specs.Effects.{IsInOperand}
use Rattle.chi_search.proofs.WordBits.{mask_bit}
use Rattle.chi_search.proofs.effect.operand_mask.Goals as goal

masks : (o : Access) (mask : ℕ) → IsLawful o → mask ≡ (256 ^ o.len - 1) * 256 ^ (o.addr % 8) → (k : ℕ) → (bit_at mask k ≡ 1) ↔ IsInOperand o k
masks o mask lawful number k = (forth, back)
  where
    forth : bit_at mask k ≡ 1 → IsInOperand o k
    forth one =
        let place = placed o.addr o.len lawful.part lawful.aligned in
        let within = (mask_bit (o.addr % 8) o.len k).0 (sym (ap (λ n. bit_at n k) number) ∙ one) in
        (omega (arith, place.at, within.0), omega (arith, place.at, within.1))

    back : IsInOperand o k → bit_at mask k ≡ 1
    back inside =
        let place = placed o.addr o.len lawful.part lawful.aligned in
        ap (λ n. bit_at n k) number ∙ (mask_bit (o.addr % 8) o.len k).1 (omega (arith, place.at, inside.0), omega (arith, place.at, inside.1))

pub returns-clause-bits : goal.returns-clause-bits
returns-clause-bits c =
    masks c.args.op.now.access c.lane_mask.result c.addr.ensures.lawful
    (c.lane_mask.ensures.number ∙ (rw (c.addr.ensures.value, c.len.ensures.value) refl))
