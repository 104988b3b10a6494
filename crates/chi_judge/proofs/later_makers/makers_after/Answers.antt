-- one write more, where there is one
use Rattle.std.proofs.Common.{◌<◌, ◌≤◌, All, IfSome, Option, sym, subst, ◌∙◌, ap}
use Rattle.std.proofs.lemmas.List.Elements.{All-push}
use Rattle.chi_trace.specs.declared.operation.Operation.{Operation}
use Rattle.chi_judge.proofs.later_makers.makers_after.Goals as goal
use Rattle.chi_judge.proofs.later_makers.makers_after.Goals.{in-Some+in_ok-push, in_default}

pub loop-op-preserved : goal.loop-op-preserved
loop-op-preserved c =
    let before = c.loop-op.makers.items in
    let Later : Operation → Type 0 = λ op. c.args.time < op.start in
    let Lasting : Operation → Type 0 = λ op. op.start ≤ op.end in
    elim c.match-maker_of.branch [
      | in-Some+in_ok-push w ↦
          let items = ap (λ (m : _). m.items) w.makers-is ∙ w.in_ok-push.ensures.items in
          record {
            later = subst (All Later) (sym items) (All-push Later before _ c.loop-op.invariant.later (subst (λ (o : Option Operation). IfSome o Later) w.in-Some.is c.maker_of.ensures.later));
            lasting = subst (All Lasting) (sym items) (All-push Lasting before _ c.loop-op.invariant.lasting (subst (λ (o : Option Operation). IfSome o Lasting) w.in-Some.is c.maker_of.ensures.lasting));
          }
      | in_default w ↦
          let items = ap (λ (m : _). m.items) w.makers-is in
          record {
            later = subst (All Later) (sym items) c.loop-op.invariant.later;
            lasting = subst (All Lasting) (sym items) c.loop-op.invariant.lasting;
          }
    ]
