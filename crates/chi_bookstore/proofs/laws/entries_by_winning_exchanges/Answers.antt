-- What each step does to the history.
use Rattle.chi_rule.proofs.GrowthLemmas.{exchange_adds, look_leaves}
use Rattle.chi_rule.proofs.LeaveLemmas.{join_leaves, read_leaves, split_leaves}
use Rattle.chi_bookstore.proofs.laws.entries_by_winning_exchanges.Goals as goal

pub returns : goal.returns
returns c = record {
  exchange = exchange_adds;
  look = look_leaves;
  read = read_leaves;
  split = split_leaves;
  join = join_leaves;
}
