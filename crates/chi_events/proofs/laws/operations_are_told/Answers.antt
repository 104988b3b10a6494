-- The operations are a trace by the times of the events, and each is one that had ended or that is still open.
use Rattle.chi_events.proofs.InTime.{operations_trace}
use Rattle.chi_events.proofs.Parted.{operations_parted}
use Rattle.chi_events.proofs.laws.operations_are_told.Goals as goal

pub returns : goal.returns
returns c events ended o tells = (operations_trace events tells.bounds tells.in_time, operations_parted events ended o tells)
