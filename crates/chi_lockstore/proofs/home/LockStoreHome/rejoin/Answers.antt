-- The seat that two were made is of the opening.
use Rattle.std.proofs.Common.{◌∙◌}
use Rattle.crossbeam_utils.specs.Seq.{cell_view}
use Rattle.chi_rule.proofs.SeatLemmas.{seat_joined}
use Rattle.chi_lockstore.proofs.home.LockStoreHome.rejoin.Goals as goal

pub returns-clause-own : goal.returns-clause-own
returns-clause-own g c = (
  c.take_in.ensures.own.0 ∙ c.requires.own.0,
  seat_joined c.args.self.now.values c.args.seat.now.numbers c.args.other.numbers c.merge.new.self (cell_view c.args.seat.now.pass)
      (cell_view c.args.other.pass) (cell_view c.take_in.new.pass) c.requires.own.1 c.requires.other_own.1 c.merge.ensures c.take_in.ensures.settled,
)
