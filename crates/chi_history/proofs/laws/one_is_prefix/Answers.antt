-- The law is a lemma.
use Rattle.chi_history.proofs.HistoryLemmas.{longer}
use Rattle.chi_history.proofs.laws.one_is_prefix.Goals as goal

pub returns : goal.returns
returns c x r y s same = longer x r y s same
