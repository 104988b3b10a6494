-- The law is a lemma.
use Rattle.chi_history.specs.History.{opening_memory}
use Rattle.chi_history.proofs.HistoryLemmas.{end_from-append}
use Rattle.chi_history.proofs.laws.ends_add.Goals as goal

pub returns : goal.returns
returns c o h x = end_from-append (opening_memory o) h x
