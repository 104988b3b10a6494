-- Equal numbers are equal bytes, and the other way round.
use Rattle.std.proofs.Common.{◌≡◌, ap, sym, ◌∙◌, true, false, List, ℕ}
use Rattle.chi_fields.specs.Access.{lane_of}
use Rattle.chi_lanes.specs.After.{old, same_bytes}
use Rattle.chi_lanes.specs.Bytes.{little_bytes}
use Rattle.chi_lanes.specs.Packet.{sent}
use Rattle.chi_lanes.proofs.Operands.{same_bytes-differs, same_bytes-self}
use Rattle.chi_lanes.proofs.operand.compared.Goals as goal

pub returns-then-old_value-sent_of : goal.returns-then-old_value-sent_of
returns-then-old_value-sent_of c m is at_start =
    let o = c.args.access.now in
    let value : List ℕ = sent o.lanes (lane_of o.addr) o.len in
    let same : old o m ≡ value = sym (c.old_value.ensures.bytes m is at_start) ∙ (ap (little_bytes o.len) c.if-old_value-sent_of.true ∙ c.sent_of.ensures.bytes) in
    let test : same_bytes (old o m) value ≡ true = ap (λ xs. same_bytes xs value) same ∙ same_bytes-self value in
    rw test (rw c.swap_of.ensures.bytes at (c.stored.ensures m is at_start))

pub returns-else-old_value-sent_of : goal.returns-else-old_value-sent_of
returns-else-old_value-sent_of c m is at_start =
    let o = c.args.access.now in
    let test : same_bytes (old o m) (sent o.lanes (lane_of o.addr) o.len) ≡ false =
    same_bytes-differs o.len c.old_value.result c.sent_of.result (old o m) (sent o.lanes (lane_of o.addr) o.len) c.old_value.ensures.below
    c.sent_of.ensures.below (c.old_value.ensures.bytes m is at_start) c.sent_of.ensures.bytes c.if-old_value-sent_of.false in
    rw test at_start
