-- The swap value's lanes are read as a number.
use Rattle.std.proofs.Common.{arith}
use Rattle.chi_fields.specs.Access.{lane_of}
use Rattle.chi_lanes.proofs.Operands.{swap_of_value}
use Rattle.chi_lanes.proofs.operand.swap_of.Goals as goal

pub returns-clause-bytes : goal.returns-clause-bytes
returns-clause-bytes c =
    let o = c.args.access.now in
    let lawful = c.len.ensures.lawful in
    let read = rw (c.lanes.ensures, c.lane.ensures, c.len.ensures.value) at c.swap_half.ensures.value in
    swap_of_value o.lanes (lane_of o.addr) o.len c.swap_half.result lawful.packet lawful.bytes lawful.part (omega arith) read
