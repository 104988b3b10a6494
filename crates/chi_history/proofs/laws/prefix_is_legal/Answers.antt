-- The law is a lemma.
use Rattle.chi_history.specs.History.{opening_memory}
use Rattle.chi_history.proofs.HistoryLemmas.{legal-front}
use Rattle.chi_history.proofs.laws.prefix_is_legal.Goals as goal

pub returns : goal.returns
returns c o h x whole = legal-front o (opening_memory o) h x whole
