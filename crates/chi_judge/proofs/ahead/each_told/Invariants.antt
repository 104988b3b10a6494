-- those that were told go along what they were told
use Rattle.std.proofs.Common.{ℕ, ◌++◌, List, All}
use Rattle.chi_trace.specs.declared.operation.Operation.{Operation}
use Rattle.chi_search.specs.Frontiers.{GoesAlong}
use Rattle.chi_judge.proofs.ahead.each_told.Given as goal

abbrev pub invariant-loop-search : goal.invariant-loop-search
invariant-loop-search l = record {
  along : (words : List ℕ) (told : List Operation) → All (GoesAlong words told) l.searches → All (GoesAlong words (told ++ l.more)) l.each.items;
}
