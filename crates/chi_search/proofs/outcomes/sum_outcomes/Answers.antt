-- the carry from the other bytes is 0 or 1
use Rattle.std.proofs.Common.{◌^◌, ◌<◌, arith}
use Rattle.std.specs.Int.{bit_not, w64}
use Rattle.std.specs.Int.Bits.{and_lt}
use Rattle.std.proofs.lemmas.Nat.{or_lt}
use Rattle.chi_search.proofs.Leaving.{of_sum}
use Rattle.chi_search.proofs.outcomes.sum_outcomes.Goals as goal

pub returns-in-Some-Some : goal.returns-in-Some-Some
returns-in-Some-Some c =
    let others : bit_not w64 c.args.mask < 2 ^ 64 = omega arith in
    of_sum c.args.op.now c.args.mask c.args.word c.in-Some-Some.low c.in-Some-Some.high c.addr-addr.ensures.lawful c.requires.sum c.requires.run c.ranges.mask.fits c.ranges.word.fits
    (or_lt 64 c.args.word (bit_not w64 c.args.mask) c.ranges.word.fits others) (and_lt 64 c.args.word c.args.mask c.ranges.word.fits c.ranges.mask.fits) c.in-Some-Some.ensures.after c.in-Some-Some.ensures'.after
