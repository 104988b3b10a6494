-- The operand's bytes are read out of the granule's word.
use Rattle.chi_lanes.proofs.Operands.{old_bytes, placed}
use Rattle.chi_lanes.proofs.operand.old_value.Goals as goal

pub returns-clause-bytes : goal.returns-clause-bytes
returns-clause-bytes c m is at_start =
    let o = c.args.access.now in
    let lawful = c.addr.ensures.lawful in
    let read = rw (c.addr.ensures.value, c.len.ensures.value) at c.extract.ensures.value in
    old_bytes m is o.addr o.len c.args.before c.extract.result (placed o.addr o.len lawful.part lawful.aligned) at_start read
