-- What each step does to the history.
use Rattle.chi_rule.proofs.GrowthLemmas.{replace_adds}
use Rattle.chi_rule.proofs.LeaveLemmas.{join_leaves, move_leaves, read_leaves, split_leaves}
use Rattle.chi_lockstore.proofs.laws.entries_by_winning_exchanges.Goals as goal

pub returns : goal.returns
returns c = record {
  exchange = replace_adds;
  read = read_leaves;
  split = split_leaves;
  whole = move_leaves;
  join = join_leaves;
}
