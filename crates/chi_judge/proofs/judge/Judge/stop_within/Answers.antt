-- there is an operation, and what was looked at in one search after another
use Rattle.std.proofs.Common.{◌≡◌, ℕ, ◌-◌, ⊎_elim, List, subst, arith, true≢false}
use Rattle.std.proofs.lemmas.Bool.{cases_lt}
use Rattle.std.proofs.lemmas.Result.{IfOk-weaker}
use Rattle.chi_trace.specs.Explains.{at}
use Rattle.chi_search.proofs.Looking.{at_least_after, at_least_before, some_after}
use Rattle.chi_trace.specs.declared.operation.Operation.{Operation}
use Rattle.chi_judge.specs.Reaches.{IsExplained, IsJudgeOf, MissesNone}
use Rattle.chi_judge.specs.declared.reach.Stop.{Stop}
use Rattle.chi_judge.proofs.More.{misses_none_after, ok_stops_imply, ok_undecided_implies}
use Rattle.chi_judge.proofs.judge.Judge.stop_within.Goals as goal

pub returns-then-count-eq0-clause-undecided : goal.returns-then-count-eq0-clause-undecided
returns-then-count-eq0-clause-undecided g c trace n w is =
    let last = c.requires.last trace n w is in
    absurd (omega (arith, last.0, c.if-count-eq0.true))

pub first_place-requires-clause-seen : goal.first_place-requires-clause-seen
first_place-requires-clause-seen g c i below stopped = c.requires.seen i (omega (arith, below)) stopped

pub stop_at-requires-clause-unexplained : goal.stop_at-requires-clause-unexplained
stop_at-requires-clause-unexplained g c trace n w is explained =
    let place = c.in_ok-place.place in
    let bound = c.in_ok-place.ensures.within in
    ⊎_elim
    (λ less. ⊎_elim (λ none. none explained) (λ spent. absurd (true≢false spent.0)) (c.in_ok-place.ensures.unexplained trace n w is less))
    (λ last. let same : place ≡ c.args.count - 1 = omega (arith, last, bound) in
    (c.requires.last trace n w is).1 (subst (λ (i : ℕ). IsExplained (at c.args.ops.now i).end trace n w) same explained))
    (cases_lt place (c.args.count - 1))

pub returns-clause-undecided : goal.returns-clause-undecided
returns-clause-undecided g c =
    ok_undecided_implies c.stop_at.result
    (λ undecided looked trace n w is. ⊎_elim
    (λ first. at_least_after g.P.Progress.looked c.args.progress.now c.first_place.new.progress c.stop_at.new.progress c.args.budget c.in_ok-place.ensures.looked (undecided trace n w is first))
    (λ spent. at_least_before g.P.Progress.looked c.args.progress.now c.first_place.new.progress c.stop_at.new.progress c.args.budget spent.1 looked)
    (c.in_ok-place.ensures.explained trace n w is))
    c.stop_at.ensures.undecided c.stop_at.ensures.looked

pub returns-clause-all : goal.returns-clause-all
returns-clause-all g c =
    let looked = g.P.Progress.looked in
    let misses : _ → _ → Stop → Type 0 = λ old new stop. (trace : List Operation) (n w : ℕ) → IsJudgeOf trace n w c.args.self.now → MissesNone looked old new c.args.budget trace n w stop in
    ok_stops_imply c.stop_at.result (misses c.first_place.new.progress c.stop_at.new.progress) (misses c.args.progress.now c.stop_at.new.progress)
    (λ stop some all trace n w is. misses_none_after looked c.args.progress.now c.first_place.new.progress c.stop_at.new.progress c.args.budget trace n w stop c.in_ok-place.ensures.looked
    (all trace n w is))
    c.stop_at.ensures.all c.stop_at.ensures.looked

pub returns-clause-looked : goal.returns-clause-looked
returns-clause-looked g c =
    IfOk-weaker c.stop_at.result _ _
    (λ reach looked. some_after g.P.Progress.looked c.args.progress.now c.first_place.new.progress c.stop_at.new.progress c.in_ok-place.ensures.looked looked)
    c.stop_at.ensures.looked
