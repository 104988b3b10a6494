-- what its effect says of the bits of the mask
use Rattle.std.proofs.Common.{Some, None, arith, refl, sym, true≢false, ◌∙◌}
use Rattle.chi_search.proofs.Leaving.{by_effect, unfound}
use Rattle.chi_search.proofs.outcomes.outcomes_by_effect.Goals as goal

pub returns-then-effect-word-ne0 : goal.returns-then-effect-word-ne0
returns-then-effect-word-ne0 c = unfound c.args.op.now c.args.effect.now c.args.mask c.args.word c.requires.effect c.if-effect-word-ne0.true

pub returns-then-effect : goal.returns-then-effect
returns-then-effect c =
    by_effect c.args.op.now c.args.effect.now c.args.mask c.args.word (Some c.args.word) c.requires.effect c.ranges.mask.fits (omega arith)
    c.if-effect-mask-ne0.false (λ _. refl)

pub returns-else-effect : goal.returns-else-effect
returns-else-effect c =
    by_effect c.args.op.now c.args.effect.now c.args.mask c.args.word None c.requires.effect c.ranges.mask.fits (omega arith)
    c.if-effect-mask-ne0.false (λ may. absurd (true≢false (sym may ∙ c.if-effect.false)))
