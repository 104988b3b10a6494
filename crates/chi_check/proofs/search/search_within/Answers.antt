-- the states of one search after another
use Rattle.std.proofs.Common.{arith}
use Rattle.chi_search.proofs.Growing.{grew_found, grew_less, looked_none, some_after}
use Rattle.chi_check.proofs.SearchLemmas.{searched_after}
use Rattle.chi_check.proofs.search.search_within.Goals as goal

pub loop-init : goal.loop-init
loop-init g c = record { within = omega (arith, c.min-budget.ensures); grew = looked_none g.P.Progress.states c.args.progress.now }

pub loop-preserved : goal.loop-preserved
loop-preserved g c =
    let states = g.P.Progress.states in
    let looked = g.P.Progress.looked in
    let old = c.args.progress.now in
    let middle = c.loop.progress in
    let new = c.answer_of.new.progress in
    let spent = c.in_ok-answer.ensures.spent in
    record {
      within = omega (arith, c.min-budget-in-loop.ensures);
      grew = some_after states old middle new c.loop.invariant.grew
          (grew_less states middle new spent.count 0 (omega arith) (grew_found states looked middle new spent.count spent.more c.cut_short-cut_short.result spent.found c.cut_short-cut_short.ensures));
    }

pub returns-then-is_decided-clause-spent : goal.returns-then-is_decided-clause-spent
returns-then-is_decided-clause-spent g c =
    searched_after g.P.Progress.states g.P.Progress.looked c.args.progress.now c.loop.progress c.answer_of.new.progress c.in_ok-answer.answer c.cut_short-cut_short.result c.loop.invariant.grew
    c.in_ok-answer.ensures.spent c.cut_short-cut_short.ensures

pub returns-clause-spent : goal.returns-clause-spent
returns-clause-spent g c =
    searched_after g.P.Progress.states g.P.Progress.looked c.args.progress.now c.loop.progress c.answer_of-2.new.progress c.in_ok-answer-2.answer c.cut_short.result c.loop.invariant.grew
    c.in_ok-answer-2.ensures.spent c.cut_short.ensures
