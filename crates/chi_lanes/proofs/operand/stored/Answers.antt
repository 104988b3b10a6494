-- What is inserted into the granule's word is written to the memory.
use Rattle.std.proofs.Common.{rules, ◌<◌, ◌^◌}
use Rattle.chi_lanes.proofs.Operands.{placed, stored_word}
use Rattle.chi_lanes.proofs.operand.stored.Goals as goal

pub returns : goal.returns
returns c m is at_start =
    let o = c.args.access.now in
    let lawful = c.addr.ensures.lawful in
    let below : c.insert.result < 2 ^ 64 = search rules in
    let made = rw (c.addr.ensures.value, c.len.ensures.value) at c.insert.ensures in
    stored_word m is o.addr o.len c.args.value c.args.before c.insert.result (placed o.addr o.len lawful.part lawful.aligned) at_start below made
