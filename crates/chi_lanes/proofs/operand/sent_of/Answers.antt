-- The sent lanes are read as a number.
use Rattle.chi_fields.specs.Access.{lane_of}
use Rattle.chi_lanes.proofs.Operands.{lanes_of_value, placed}
use Rattle.chi_lanes.proofs.operand.sent_of.Goals as goal

pub returns-clause-bytes : goal.returns-clause-bytes
returns-clause-bytes c =
    let o = c.args.access.now in
    let lawful = c.len.ensures.lawful in
    let read = rw (c.lanes.ensures, c.lane.ensures, c.len.ensures.value) at c.lanes_value.ensures.value in
    lanes_of_value o.lanes (lane_of o.addr) o.len c.lanes_value.result lawful.packet lawful.bytes
    (placed o.addr o.len lawful.part lawful.aligned).packet read
