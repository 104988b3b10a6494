-- The rule stands at one history.
use Rattle.chi_rule.proofs.LeaveLemmas.{one_history}
use Rattle.chi_bookstore.proofs.laws.one_history.Goals as goal

pub returns : goal.returns
returns c = one_history
