-- The law is a lemma.
use Rattle.chi_history.proofs.HistoryLemmas.{free-append}
use Rattle.chi_history.proofs.laws.free_adds.Goals as goal

pub returns : goal.returns
returns c held x y first second = free-append held x y first second
