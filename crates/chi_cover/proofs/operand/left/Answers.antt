-- the operand's bytes before and after the operation, in a memory that has them
use Rattle.std.proofs.Common.{rules, ◌<◌, ◌^◌, ap, ◌∙◌}
use Rattle.chi_fields.specs.Access.{lane_of}
use Rattle.chi_lanes.specs.After.{after}
use Rattle.chi_lanes.specs.Combination.{combine}
use Rattle.chi_lanes.specs.Memory.{granule_start}
use Rattle.chi_lanes.specs.Packet.{sent}
use Rattle.chi_trace.specs.Granules.{with_word}
use Rattle.chi_trace.proofs.Steps.{IsMemory-with_word}
use Rattle.chi_trace.proofs.Applied.{IsRegion-line, in_line, line, word_here, word_in_line}
use Rattle.chi_cover.proofs.Left.{left_bytes}
use Rattle.chi_cover.proofs.operand.left.Goals as goal

pub returns-clause-bytes : goal.returns-clause-bytes
returns-clause-bytes c =
    let o = c.args.access.now in
    let lawful = c.addr.ensures.lawful in
    let word = c.insert-word.result in
    let below : word < 2 ^ 64 = search rules in
    let made = rw (c.addr.ensures.value, c.len.ensures.value) at c.insert-word.ensures in
    let memory = with_word (granule_start o.addr) word in
    let next = c.apply-after.ensures.changed (line o.addr) memory (IsRegion-line o lawful c.requires.within) (IsMemory-with_word _ _) (in_line o lawful) (word_here o.addr word below)
    ∙ word_in_line (after o memory) o.addr in
    let read = rw (c.addr.ensures.value, c.len-2.ensures.value) at c.extract.ensures.value in
    left_bytes o word c.args.old lawful below made c.args.op c.apply-after.result.0 c.extract.result c.requires.kind next read
    ∙ ap (λ old. combine c.args.op o.endian old (sent o.lanes (lane_of o.addr) o.len)) c.requires.bytes
