-- one goal more
use Rattle.std.proofs.Common.{◌++◌, ◌∷◌, [], List, Option, ℕ, Some, ap, sym, ◌∙◌}
use Rattle.std.proofs.lemmas.List.{map_more}
use Rattle.chi_cover.specs.declared.bin.Bin.TheVariants.{Open}
use Rattle.chi_cover.specs.declared.bin.Depth.TheVariants.{One}
use Rattle.chi_cover.proofs.plan.same_goals.Goals as goal

pub loop-bin-preserved : goal.loop-bin-preserved
loop-bin-preserved c =
    c.in_ok-push.ensures.items
    ∙ (ap (λ (goals : List (Option ℕ)). goals ++ Some c.args.goal ∷ []) c.loop-bin.invariant
    ∙ sym (map_more (λ bin. Some c.args.goal) _ c.loop-bin._bin-index (Open One) c.loop-bin-test.true))
