-- where a reply was seen, it is compared with the one that the word gives
use Rattle.std.proofs.Common.{◌≡◌, IfSome, Option, sym, subst, ◌∙◌}
use Rattle.std.proofs.lemmas.Bool.{both_ways}
use Rattle.chi_lanes.specs.After.{answer}
use Rattle.chi_lanes.specs.Memory.{granule_start}
use Rattle.chi_lanes.specs.declared.reply.Reply.{Reply}
use Rattle.chi_trace.specs.Granules.{Fits, with_word}
use Rattle.chi_search.proofs.at_word.step.Goals as goal

pub returns-then-is_same-clause-fits : goal.returns-then-is_same-clause-fits
unfolding Fits
returns-then-is_same-clause-fits c =
    subst (λ (seen : Option Reply). IfSome seen (λ reply. reply ≡ answer c.args.op.now.access (with_word (granule_start c.args.op.now.access.addr) c.args.word))) (sym c.in-Some.is)
    (c.is_same.ensures.0 c.if-is_same.true ∙ c.apply_operation-after.ensures.answered)

pub returns-else-is_same-clause-unfit : goal.returns-else-is_same-clause-unfit
unfolding Fits
returns-else-is_same-clause-unfit c _ fits =
    let seen : c.in-Some.seen ≡ answer c.args.op.now.access (with_word (granule_start c.args.op.now.access.addr) c.args.word) =
    subst (λ (seen : Option Reply). IfSome seen (λ reply. reply ≡ answer c.args.op.now.access (with_word (granule_start c.args.op.now.access.addr) c.args.word))) c.in-Some.is fits in
    both_ways _ c.if-is_same.false (c.is_same.ensures.1 (seen ∙ sym c.apply_operation-after.ensures.answered))

pub returns-in-None-clause-fits : goal.returns-in-None-clause-fits
unfolding Fits
returns-in-None-clause-fits c =
    subst (λ (seen : Option Reply). IfSome seen (λ reply. reply ≡ answer c.args.op.now.access (with_word (granule_start c.args.op.now.access.addr) c.args.word))) (sym c.in-None.is) tt
