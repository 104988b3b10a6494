-- The steps of a try are possible.
use Rattle.chi_rule.proofs.PossibleLemmas.{exchange_possible, look_possible}
use Rattle.chi_bookstore.proofs.laws.tries_are_possible.Goals as goal

pub returns : goal.returns
returns c = record { look = look_possible; exchange = exchange_possible }
