-- The rule stands at one history.
use Rattle.chi_rule.proofs.LeaveLemmas.{one_history}
use Rattle.chi_lockstore.proofs.laws.one_history.Goals as goal

pub returns : goal.returns
returns c = one_history
