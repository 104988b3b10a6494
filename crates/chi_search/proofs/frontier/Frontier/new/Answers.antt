-- nothing is told yet
use Rattle.std.proofs.Common.{List, sym, refl, subst}
use Rattle.chi_trace.specs.declared.operation.Operation.{Operation}
use Rattle.chi_search.specs.Frontiers.{IsFrontier}
use Rattle.chi_search.specs.StateSets.{positions}
use Rattle.chi_search.proofs.Telling.{follows_none, frontier_none}
use Rattle.chi_search.proofs.frontier.Frontier.new.Goals as goal

pub invariant_of-result : goal.invariant_of-result
invariant_of-result c =
    subst (λ (ops : List Operation). IsFrontier (record { positions = positions c.in_ok-states.states; operations = ops; horizon = 0; latest = 0 })) (sym c.new.ensures.items)
    (frontier_none c.args.words.now c.in_ok-states.states c.in_ok-states.ensures)

pub returns-clause-follows : goal.returns-clause-follows
returns-clause-follows c =
    follows_none c.args.words.now c.in_ok-states.states (record { positions = positions c.in_ok-states.states; operations = c.new.result.items; horizon = 0; latest = 0 })
    c.in_ok-states.ensures refl c.new.ensures.items
