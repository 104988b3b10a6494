-- the same operations, and a copy of the states
use Rattle.std.proofs.Common.{◌≡◌, List, refl, sym, subst, ◌∙◌}
use Rattle.chi_trace.specs.declared.operation.Operation.{Operation}
use Rattle.chi_search.specs.Frontiers.{Follows, FrontierValue, GoesAlong, IsFrontier}
use Rattle.chi_search.specs.StateSets.{positions}
use Rattle.chi_search.proofs.MovedBack.{follows_copied, frontier_copied}
use Rattle.chi_search.proofs.OneWay.{along_copied}
use Rattle.chi_search.proofs.frontier.Frontier.copy.Goals as goal

pub invariant_of-result : goal.invariant_of-result
invariant_of-result c =
    let s = c.self.inside in
    let old : FrontierValue = record { positions = positions s.states; operations = s.operations.items; horizon = s.horizon; latest = s.latest } in
    let items : c.in_ok-operations.operations.items ≡ s.operations.items = c.in_ok-operations.ensures.items ∙ c.deref.ensures.value in
    subst (λ (ops : List Operation). IsFrontier (record { positions = positions c.in_ok-states.states; operations = ops; horizon = s.horizon; latest = s.latest })) (sym items)
    (frontier_copied old s.states c.in_ok-states.states refl c.in_ok-states.ensures.has c.self.invariant)

pub returns-clause-follows : goal.returns-clause-follows
returns-clause-follows c words told follows =
    let s = c.self.inside in
    let old : FrontierValue = record { positions = positions s.states; operations = s.operations.items; horizon = s.horizon; latest = s.latest } in
    let items : c.in_ok-operations.operations.items ≡ s.operations.items = c.in_ok-operations.ensures.items ∙ c.deref.ensures.value in
    subst (λ (ops : List Operation). Follows words told (record { positions = positions c.in_ok-states.states; operations = ops; horizon = s.horizon; latest = s.latest })) (sym items)
    (follows_copied words told old s.states c.in_ok-states.states refl c.in_ok-states.ensures.has (subst (Follows words told) (sym c.self.view_is) follows))

pub returns-clause-along : goal.returns-clause-along
returns-clause-along c words told along =
    let s = c.self.inside in
    let old : FrontierValue = record { positions = positions s.states; operations = s.operations.items; horizon = s.horizon; latest = s.latest } in
    let items : c.in_ok-operations.operations.items ≡ s.operations.items = c.in_ok-operations.ensures.items ∙ c.deref.ensures.value in
    subst (λ (ops : List Operation). GoesAlong words told (record { positions = positions c.in_ok-states.states; operations = ops; horizon = s.horizon; latest = s.latest })) (sym items)
    (along_copied words told old s.states c.in_ok-states.states refl c.in_ok-states.ensures.has (subst (GoesAlong words told) (sym c.self.view_is) along))
