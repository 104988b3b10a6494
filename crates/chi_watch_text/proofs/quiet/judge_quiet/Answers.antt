-- each is looked at
use Rattle.chi_watch_text.proofs.quiet.judge_quiet.Goals as goal

pub returns-clause-each : goal.returns-clause-each
returns-clause-each g c is = rw c.deref.ensures.value at c.in_ok-judge_each.ensures.each

pub returns-in_err-judge_each-clause-each : goal.returns-in_err-judge_each-clause-each
returns-in_err-judge_each-clause-each g c is = rw c.deref.ensures.value at c.in_err-judge_each.ensures.each
