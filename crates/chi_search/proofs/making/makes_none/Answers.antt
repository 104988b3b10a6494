-- it changes none of these bits, or leaves another one
use Rattle.chi_search.proofs.Reach.{contrary, differs, untouched}
use Rattle.chi_search.proofs.making.makes_none.Goals as goal

pub returns-then-effect-mask-eq0 : goal.returns-then-effect-mask-eq0
returns-then-effect-mask-eq0 c _ op has = untouched op c.args.effect.now c.args.word c.args.mask has c.ranges.mask.fits c.if-effect-mask-eq0.true

pub returns-else-effect-mask-eq0 : goal.returns-else-effect-mask-eq0
returns-else-effect-mask-eq0 c some op has = contrary op c.args.effect.now c.args.word c.args.mask has (differs _ some)
