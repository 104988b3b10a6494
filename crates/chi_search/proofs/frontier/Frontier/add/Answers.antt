-- one operation more is told
use Rattle.std.proofs.Common.{◌+◌, ◌^◌, ◌≤◌, List, [], ◌∷◌, ◌++◌, sym, ap, subst, ◌∙◌, arith}
use Rattle.chi_trace.specs.declared.operation.Operation.{Operation}
use Rattle.chi_search.specs.Frontiers.{CanBeTold, Follows, FrontierValue, GoesAlong, IsFrontier}
use Rattle.chi_search.specs.StateSets.{positions}
use Rattle.chi_search.proofs.OneWay.{along_one}
use Rattle.chi_search.proofs.Telling.{follows_one, frontier_one}
use Rattle.chi_search.proofs.frontier.Frontier.add.Goals as goal

pub invariant_of-self-2 : goal.invariant_of-self-2
invariant_of-self-2 c =
    let s = c.self.inside in
    let op = c.args.op.now in
    let old : FrontierValue = record { positions = positions s.states; operations = s.operations.items; horizon = s.horizon; latest = s.latest } in
    let can : CanBeTold old op = record { lasting = omega arith; starts = omega arith; ends = omega arith } in
    let lies : op.access.addr + op.access.len ≤ 2 ^ 52 = omega arith in
    subst (λ (ops : List Operation). IsFrontier (record { positions = positions s.states; operations = ops; horizon = s.horizon; latest = op.end })) (sym c.in_ok-push.ensures.items)
    (frontier_one old op c.self.invariant can lies)

pub returns-clause-told : goal.returns-clause-told
returns-clause-told c is words told follows =
    let s = c.self.inside in
    let op = c.args.op.now in
    let old : FrontierValue = record { positions = positions s.states; operations = s.operations.items; horizon = s.horizon; latest = s.latest } in
    let can : CanBeTold old op = record { lasting = omega arith; starts = omega arith; ends = omega arith } in
    subst (λ (ops : List Operation). Follows words (told ++ op ∷ []) (record { positions = positions s.states; operations = ops; horizon = s.horizon; latest = op.end })) (sym c.in_ok-push.ensures.items)
    (follows_one words told old op can (subst (Follows words told) (sym c.self.view_is) follows))

pub returns-clause-operations : goal.returns-clause-operations
returns-clause-operations c is = c.in_ok-push.ensures.items ∙ ap (λ (f : FrontierValue). f.operations ++ c.args.op.now ∷ []) c.self.view_is

pub returns-clause-along : goal.returns-clause-along
returns-clause-along c is words told along =
    let s = c.self.inside in
    let op = c.args.op.now in
    let old : FrontierValue = record { positions = positions s.states; operations = s.operations.items; horizon = s.horizon; latest = s.latest } in
    let can : CanBeTold old op = record { lasting = omega arith; starts = omega arith; ends = omega arith } in
    subst (λ (ops : List Operation). GoesAlong words (told ++ op ∷ []) (record { positions = positions s.states; operations = ops; horizon = s.horizon; latest = op.end })) (sym c.in_ok-push.ensures.items)
    (along_one words told old op can (subst (GoesAlong words told) (sym c.self.view_is) along))
