-- the masked sum is the sum cut to the operand's bytes
use Rattle.std.proofs.Common.{◌+◌}
use Rattle.chi_lanes.proofs.CombineLemmas.{masked, masked-below, little_bytes-number_in}
use Rattle.chi_lanes.proofs.combination.sum.Goals as goal

pub ordered-requires-3-clause-fits : goal.ordered-requires-3-clause-fits
ordered-requires-3-clause-fits c =
    let total = c.ordered.result + c.ordered-2.result in
    rw (masked c.args.len total c.requires.most) (masked-below c.args.len total)

pub returns-clause-bytes : goal.returns-clause-bytes
returns-clause-bytes c =
    let total = c.ordered.result + c.ordered-2.result in
    rw (c.ordered-3.ensures.number, masked c.args.len total c.requires.most, c.ordered.ensures.number, c.ordered-2.ensures.number)
    (little_bytes-number_in c.args.endian c.args.len _)
