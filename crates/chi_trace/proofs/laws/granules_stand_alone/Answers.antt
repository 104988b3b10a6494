-- A granule's operations, told in any order, stand at each of its places once.
use Rattle.chi_trace.proofs.ToldAgain.{told_again}
use Rattle.chi_trace.proofs.laws.granules_stand_alone.Goals as goal

pub returns : goal.returns
returns c = told_again
