-- The law is a lemma.
use Rattle.chi_history.specs.History.{end, opening_memory}
use Rattle.chi_history.proofs.HistoryLemmas.{free-all, legal-back}
use Rattle.chi_history.proofs.laws.free_of_all_is_empty.Goals as goal

pub returns : goal.returns
returns c o h x held all legal free = free-all o (end o h) held x all (legal-back o (opening_memory o) h x legal) free
