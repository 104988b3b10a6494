-- A trace can be explained exactly where each granule's operations can.
use Rattle.chi_trace.proofs.Granules.{orders_explain}
use Rattle.chi_trace.proofs.Projection.{part_explains}
use Rattle.chi_trace.proofs.Whole.{granules_explained}
use Rattle.chi_trace.proofs.laws.granules_explain.Goals as goal

pub returns : goal.returns
returns c = granules_explained orders_explain part_explains
