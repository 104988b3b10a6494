-- the word and the reply are those of a memory that has the word in the operation's granule
use Rattle.std.proofs.Common.{sym, ◌∙◌}
use Rattle.chi_lanes.specs.After.{after}
use Rattle.chi_lanes.specs.Memory.{granule_start}
use Rattle.chi_trace.specs.Granules.{next, with_word}
use Rattle.chi_trace.proofs.Steps.{IsMemory-with_word}
use Rattle.chi_trace.proofs.Applied.{IsRegion-line, in_line, line, word_here, word_in_line}
use Rattle.chi_trace.proofs.effect.apply_operation.Goals as goal

pub returns-clause-word : goal.returns-clause-word
unfolding next
returns-clause-word c =
    let access = c.args.op.now.access in
    let lawful = c.addr-addr.ensures.lawful in
    let memory = with_word (granule_start access.addr) c.args.word in
    c.apply-after.ensures.changed (line access.addr) memory
    (IsRegion-line access lawful c.requires) (IsMemory-with_word _ _) (in_line access lawful) (word_here access.addr c.args.word c.ranges.word.fits)
    ∙ word_in_line (after access memory) access.addr

pub returns-clause-answered : goal.returns-clause-answered
returns-clause-answered c =
    let access = c.args.op.now.access in
    let lawful = c.addr-addr.ensures.lawful in
    c.apply-after.ensures.answered (line access.addr) (with_word (granule_start access.addr) c.args.word)
    (IsRegion-line access lawful c.requires) (IsMemory-with_word _ _) (in_line access lawful) (word_here access.addr c.args.word c.ranges.word.fits)

pub returns-clause-reply : goal.returns-clause-reply
returns-clause-reply c m is same =
    let access = c.args.op.now.access in
    let lawful = c.addr-addr.ensures.lawful in
    c.apply-after.ensures.answered (line access.addr) m (IsRegion-line access lawful c.requires) is (in_line access lawful) (same ∙ sym (word_in_line m access.addr))
