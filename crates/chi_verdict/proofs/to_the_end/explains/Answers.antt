-- what is searched is a trace too
use Rattle.chi_verdict.proofs.Replied.{still_traced}
use Rattle.chi_verdict.proofs.to_the_end.explains.Goals as goal

pub search_granule-requires-clause-traced : goal.search_granule-requires-clause-traced
search_granule-requires-clause-traced g c =
    rw (c.deref-3.ensures.value, c.in_ok-others.ensures, c.operations.ensures.operations) (still_traced c.args.number c.args.reply c.args.trace.now.operations c.operations.ensures.traced)
