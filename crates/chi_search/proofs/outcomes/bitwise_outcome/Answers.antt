-- each bit is made of that bit alone
use Rattle.chi_search.proofs.Leaving.{by_bits}
use Rattle.chi_search.proofs.outcomes.bitwise_outcome.Goals as goal

pub returns-in-Some : goal.returns-in-Some
returns-in-Some c =
    by_bits c.args.op.now c.args.mask c.args.word c.in-Some.after c.addr-addr.ensures.lawful c.requires.bitwise c.ranges.mask.fits c.ranges.word.fits c.in-Some.ensures.after
