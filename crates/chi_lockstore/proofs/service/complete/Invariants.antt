-- Each try is asked for its own words.
use Rattle.std.proofs.Common.{◌≡◌}
use Rattle.crossbeam_utils.specs.Seq.{cell_view, IsSamePass}
use Rattle.chi_lockstore.proofs.service.complete.Given as goal

abbrev pub ghosts-try_once : goal.ghosts-try_once
ghosts-try_once g a = record { purpose = a.purpose.now; current = a.current }

abbrev pub invariant-tries : goal.invariant-tries
invariant-tries g l = record { own : IsSamePass l.fn.pass l.pass; same : cell_view l.pass ≡ cell_view l.fn.pass }
