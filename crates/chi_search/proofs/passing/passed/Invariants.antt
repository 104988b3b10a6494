-- each state so far has passed that many
use Rattle.std.proofs.Common.{◌≤◌, All, take}
use Rattle.chi_search.specs.declared.narrow.NarrowState.{NarrowState}
use Rattle.chi_search.specs.declared.state.State.{State}
use Rattle.chi_search.proofs.passing.passed.Given as goal

abbrev pub invariant-loop-state : goal.invariant-loop-state
invariant-loop-state l = record {
  within : l.least ≤ l.operations;
  narrow : All (λ (s : NarrowState). l.least ≤ s.first) (take l.state-index l.states.narrow.states.items);
}

abbrev pub invariant-loop-state-2 : goal.invariant-loop-state-2
invariant-loop-state-2 l = record {
  within : l.least ≤ l.operations;
  narrow : All (λ (s : NarrowState). l.least ≤ s.first) l.states.narrow.states.items;
  wide : All (λ (s : State). l.least ≤ s.first) (take l.state-index l.states.wide.states.items);
}
