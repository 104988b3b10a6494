-- by the bits that are found, and those that are kept
use Rattle.std.proofs.Common.{rules}
use Rattle.chi_search.proofs.Wanting.{by_effect, within_mask}
use Rattle.chi_search.proofs.wanted.wanted_by_effect.Goals as goal

pub returns-clause-wants : goal.returns-clause-wants
returns-clause-wants c op has =
    by_effect c.args.effect.now c.args.word c.args.bits c.args.mask (search rules) (search rules) c.ranges.bits.fits c.ranges.mask.fits op has _

pub returns-clause-within : goal.returns-clause-within
returns-clause-within c = within_mask c.args.effect.now c.args.bits c.args.mask (search rules) c.ranges.bits.fits c.ranges.mask.fits
