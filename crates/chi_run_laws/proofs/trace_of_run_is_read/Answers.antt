use Rattle.chi_run_laws.proofs.Runs.{trace_is_read}
use Rattle.chi_run_laws.proofs.trace_of_run_is_read.Goals as goal

pub returns : goal.returns
returns c = trace_is_read
