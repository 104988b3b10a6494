-- the requests so far
use Rattle.chi_engine.proofs.TraceLemmas.{AreToldTo}
use Rattle.chi_engine.proofs.trace.line_values.Given as goal

abbrev pub invariant-loop-place : goal.invariant-loop-place
invariant-loop-place l = AreToldTo l.place l.lines l.values.items
