-- it changes none of the bits
use Rattle.chi_search.proofs.Reach.{keeps_bits}
use Rattle.chi_search.proofs.absorbing.is_kept.Goals as goal

pub returns-then-effect-mask-eq0 : goal.returns-then-effect-mask-eq0
returns-then-effect-mask-eq0 c _ op has = keeps_bits op c.args.effect.now c.args.mask has c.ranges.mask.fits c.if-effect-mask-eq0.true
