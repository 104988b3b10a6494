-- the states of the verdict, and those that were counted after it
use Rattle.std.proofs.Common.{arith}
use Rattle.chi_answer.proofs.Spent.{decided_after, far_after, far_decided, said_weaker, spent_after, undecided_after}
use Rattle.chi_answer.proofs.answer.answer_of.Goals as goal

pub returns-in-Explained-clause-spent : goal.returns-in-Explained-clause-spent
returns-in-Explained-clause-spent g c =
    let spent = c.in_ok-order.ensures.spent in record { count = spent.count; more = 0; found = spent.found; undecided = tt }

pub returns-in-Unexplained-clause-spent : goal.returns-in-Unexplained-clause-spent
returns-in-Unexplained-clause-spent g c =
    let spent = c.in_ok-order.ensures.spent in
    decided_after g.P.Progress.states g.P.Progress.looked c.args.progress.now c.verdict_of.new.progress c.unexplained.new.progress spent.count spent.found c.unexplained.result
    c.unexplained.ensures.decided c.unexplained.ensures.looked

pub returns-in-Unexplained-clause-far : goal.returns-in-Unexplained-clause-far
returns-in-Unexplained-clause-far g c =
    far_decided g.P.Progress.states g.P.Progress.looked c.args.progress.now c.unexplained.new.progress c.args.budget c.args.recorded.now.trace c.unexplained.result c.unexplained.ensures.decided

pub returns-in-Undecided-clause-spent : goal.returns-in-Undecided-clause-spent
returns-in-Undecided-clause-spent g c =
    let spent = c.in_ok-order.ensures.spent in
    let under = rw c.in-Undecided.is at spent.undecided in
    let whole = rw c.in-Undecided.is at c.in_ok-order.ensures.undecided in
    undecided_after g.P.Progress.states g.P.Progress.looked c.args.progress.now c.verdict_of.new.progress c.undecided.new.progress spent.count spent.found c.args.budget c.undecided.result
    (omega (arith, under, whole)) c.undecided.ensures.undecided c.undecided.ensures.looked

pub returns-in-Undecided-clause-far : goal.returns-in-Undecided-clause-far
returns-in-Undecided-clause-far g c =
    let spent = c.in_ok-order.ensures.spent in
    let under = rw c.in-Undecided.is at spent.undecided in
    let whole = rw c.in-Undecided.is at c.in_ok-order.ensures.undecided in
    far_after g.P.Progress.states g.P.Progress.looked c.args.progress.now c.verdict_of.new.progress c.undecided.new.progress spent.count spent.found c.args.budget c.args.recorded.now.trace c.undecided.result
    (omega (arith, under, whole)) c.undecided.ensures.far

pub returns-in-Unexplained-clause-said : goal.returns-in-Unexplained-clause-said
returns-in-Unexplained-clause-said g c =
    let spent = c.in_ok-order.ensures.spent in
    said_weaker (spent_after g.P.Progress.states g.P.Progress.looked c.args.progress.now c.verdict_of.new.progress c.unexplained.new.progress spent.count spent.found c.args.budget) c.args.recorded.now c.unexplained.result
    c.unexplained.ensures.said

pub returns-in-Undecided-clause-said : goal.returns-in-Undecided-clause-said
returns-in-Undecided-clause-said g c = said_weaker (λ never. absurd never) c.args.recorded.now c.undecided.result c.undecided.ensures.said
