-- what goes on from the state goes on from the one that is reached, which is ready
use Rattle.std.proofs.Common.{length}
use Rattle.chi_search.specs.Positions.{IsReady, position_of}
use Rattle.chi_search.specs.Within.{GoesOnWithin}
use Rattle.chi_search.proofs.absorbing.absorb.Given as goal

abbrev pub invariant-loop : goal.invariant-loop
invariant-loop l = record {
  ready : IsReady (length l.problem.ops.now) (position_of l.state);
  goes_on : GoesOnWithin l.mask l.problem.ops.now (position_of l.initial.state) (position_of l.state);
}
