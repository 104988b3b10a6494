-- the granule's operations are a trace
use Rattle.std.proofs.Common.{subst, sym}
use Rattle.chi_trace.specs.AtPlaces.{is_in}
use Rattle.chi_trace.specs.Explains.{IsTrace}
use Rattle.chi_trace.proofs.TracedCuts.{IsTrace-filter}
use Rattle.chi_reading.proofs.recorded.Recorded.alone.Goals as goal

pub unreachable-requires : goal.unreachable-requires
unreachable-requires c =
    c.new.ensures.none c.in-None.is (subst IsTrace (sym c.in_ok-operations.ensures) (IsTrace-filter (is_in c.args.granule) c.operations.result.now (subst IsTrace (sym c.operations.ensures.operations) c.operations.ensures.traced)))
