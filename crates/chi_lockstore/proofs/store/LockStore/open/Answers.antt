-- The first seat is of the opening.
use Rattle.std.proofs.Common.{rules}
use Rattle.crossbeam_utils.specs.Seq.{cell_view}
use Rattle.chi_rule.proofs.SeatLemmas.{seat_first}
use Rattle.chi_lockstore.proofs.store.LockStore.open.Goals as goal

pub returns-clause-own : goal.returns-clause-own
returns-clause-own g c = (search rules, seat_first c.in-Ok.values c.all-numbers.result (cell_view c.in-Ok-begin.pass) (search rules) (search rules))
