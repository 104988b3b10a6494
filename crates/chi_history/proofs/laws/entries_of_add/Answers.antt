-- The law is a lemma.
use Rattle.chi_history.proofs.HistoryLemmas.{of-append}
use Rattle.chi_history.proofs.laws.entries_of_add.Goals as goal

pub returns : goal.returns
returns c x y r = of-append x y r
