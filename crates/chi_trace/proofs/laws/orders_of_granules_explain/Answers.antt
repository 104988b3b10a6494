-- Orders of the granules' operations make one of the whole trace.
use Rattle.chi_trace.proofs.Granules.{orders_explain}
use Rattle.chi_trace.proofs.laws.orders_of_granules_explain.Goals as goal

pub returns : goal.returns
returns c = orders_explain
