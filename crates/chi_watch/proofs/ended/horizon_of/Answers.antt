-- none starts before the time 0
use Rattle.std.proofs.Common.{arith}
use Rattle.chi_watch.proofs.ended.horizon_of.Goals as goal

pub returns-else-looks-clause-starts : goal.returns-else-looks-clause-starts
returns-else-looks-clause-starts c k p below here = omega arith
