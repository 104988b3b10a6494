-- An exchange is possible.
use Rattle.chi_rule.proofs.PossibleLemmas.{replace_possible}
use Rattle.chi_lockstore.proofs.laws.exchange_is_possible.Goals as goal

pub returns : goal.returns
returns c = replace_possible
