-- what is said of the granule is said of the trace that was read
use Rattle.chi_answer.proofs.answer.undecided.Goals as goal

pub returns-clause-far : goal.returns-clause-far
returns-clause-far g c = rw c.trace.ensures at c.in_ok-doubt.ensures.far
