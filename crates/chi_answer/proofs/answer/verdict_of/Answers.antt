-- each state counts as one between what a progress is told before the search and after it
use Rattle.chi_answer.proofs.Spent.{found_then}
use Rattle.chi_answer.proofs.answer.verdict_of.Goals as goal

pub returns-clause-spent : goal.returns-clause-spent
returns-clause-spent g c =
    let spent = c.in_ok-verdict.ensures.spent in
    record {
      count = spent.count;
      found = found_then g.P.Progress.states g.P.Progress.looked c.args.progress.now c.before_verdict.new.self c.explain.new.progress c.after_verdict.new.self spent.count c.before_verdict.ensures spent.more
          c.after_verdict.ensures;
      undecided = spent.undecided;
    }
