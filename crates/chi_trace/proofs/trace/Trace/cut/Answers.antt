-- what had happened by a time is a trace
use Rattle.chi_trace.proofs.TracedCuts.{IsTrace-cut}
use Rattle.chi_trace.proofs.trace.Trace.cut.Goals as goal

pub invariant_of-result : goal.invariant_of-result
invariant_of-result c = rw (c.in_ok-operations.ensures, c.deref.ensures.value) (IsTrace-cut c.args.time c.self.inside.operations.items c.self.invariant)
