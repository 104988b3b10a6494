-- all granules are among those that were judged
use Rattle.std.proofs.Common.{sym, subst, ◌∙◌}
use Rattle.std.proofs.lemmas.Result.{IfOk-weaker}
use Rattle.chi_granules.specs.Judged.{HasGranules}
use Rattle.chi_granules.proofs.Numbers.{has_granules}
use Rattle.chi_granules.proofs.whole.all_granules.Goals as goal

pub returns-clause-each : goal.returns-clause-each
returns-clause-each c =
    let r = c.args.recorded.now in
    IfOk-weaker c.judged_granules.result _ _
    (λ drawn is. subst (HasGranules r) (sym (is ∙ c.deref.ensures.value)) (has_granules r c.in_ok-granule_numbers.granule_numbers.items c.in_ok-granule_numbers.ensures))
    c.judged_granules.ensures.granules
