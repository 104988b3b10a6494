-- the granule's operations of the trace stand in the order of their starts too
use Rattle.std.proofs.Common.{◌≡◌, filter, rules, sym, subst}
use Rattle.chi_trace.specs.AtPlaces.{is_in}
use Rattle.chi_trace.specs.Explains.{IsTrace}
use Rattle.chi_trace.proofs.TracedCuts.{IsTrace-filter}
use Rattle.chi_verdict.proofs.open.most_open.Goals as goal

pub most_at_once-requires : goal.most_at_once-requires
most_at_once-requires c =
    let ops = c.args.trace.now.operations in
    let own : c.deref.result.now ≡ filter (is_in c.args.granule) ops = search rules in
    record { traced = subst IsTrace (sym own) (IsTrace-filter (is_in c.args.granule) ops c.operations.ensures.traced) }
