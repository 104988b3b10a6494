use Rattle.chi_run_laws.proofs.Runs.{read_in_order}
use Rattle.chi_run_laws.proofs.run_is_read_in_order.Goals as goal

pub returns : goal.returns
returns c = read_in_order
