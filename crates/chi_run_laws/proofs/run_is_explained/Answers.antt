use Rattle.chi_run_laws.proofs.Runs.{is_explained}
use Rattle.chi_run_laws.proofs.run_is_explained.Goals as goal

pub returns : goal.returns
returns c = is_explained
