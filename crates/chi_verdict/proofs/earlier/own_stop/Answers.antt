-- what is known of a trace is one, and what the two searches look at
use Rattle.std.proofs.Common.{◌-◌, sym, subst, ◌∙◌}
use Rattle.chi_search.proofs.Looking.{some_after}
use Rattle.chi_trace.specs.Explains.{IsTrace}
use Rattle.chi_trace.proofs.TracedCuts.{IsTrace-cut}
use Rattle.chi_verdict.proofs.earlier.own_stop.Goals as goal

pub of_trace-requires : goal.of_trace-requires
of_trace-requires g c =
    record { traced = subst IsTrace (sym (c.deref.ensures.value ∙ c.in_ok-known.ensures)) (IsTrace-cut (c.args.time - 1) c.args.own.now c.requires) }

pub returns-in-Some-clause-looked : goal.returns-in-Some-clause-looked
returns-in-Some-clause-looked g c =
    some_after g.P.Progress.looked c.args.progress.now c.check.new.progress c.stop_of.new.progress c.in_ok-check.ensures.looked c.in_ok-stop-in-Unexplained.ensures.looked

pub returns-in-Unexplained-clause-looked : goal.returns-in-Unexplained-clause-looked
returns-in-Unexplained-clause-looked g c =
    some_after g.P.Progress.looked c.args.progress.now c.check.new.progress c.stop_of.new.progress c.in_ok-check.ensures.looked c.in_ok-stop-in-Unexplained.ensures.looked
