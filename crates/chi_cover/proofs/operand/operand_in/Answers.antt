-- the lanes are read as a number
use Rattle.chi_fields.specs.Access.{lane_of}
use Rattle.chi_lanes.proofs.Operands.{lanes_of_value, placed}
use Rattle.chi_cover.proofs.operand.operand_in.Goals as goal

pub returns-clause-bytes : goal.returns-clause-bytes
returns-clause-bytes c =
    let o = c.args.access.now in
    let lawful = c.len.ensures.lawful in
    let read = rw (c.lane.ensures, c.len.ensures.value) at c.compare_half.ensures.value in
    lanes_of_value c.args.lanes.now (lane_of o.addr) o.len c.compare_half.result c.told-lanes c.fits-lanes
    (placed o.addr o.len lawful.part lawful.aligned).packet read
