-- The law is a lemma.
use Rattle.chi_history.proofs.HistoryLemmas.{of-free}
use Rattle.chi_history.proofs.laws.free_has_none.Goals as goal

pub returns : goal.returns
returns c held x r holds free = of-free held x r holds free
