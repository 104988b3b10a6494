-- the operations stop being explained by the time up to which they are known not to be
use Rattle.std.proofs.Common.{ℕ, ◌-◌, ◌<◌, ◌≤◌, List, Some, subst, sym, ⊎_elim, arith}
use Rattle.std.proofs.lemmas.Bool.{cases_lt}
use Rattle.chi_trace.proofs.Before.{before}
use Rattle.chi_trace.specs.Explains.{IsTrace}
use Rattle.chi_trace.specs.declared.operation.Operation.{Operation}
use Rattle.chi_judge.specs.Reaches.{AreLast, IfStops, IfWhole, IsExplained, IsJudgeOf, IsStop}
use Rattle.chi_judge.specs.declared.reach.Reach.{Reach}
use Rattle.chi_judge.specs.declared.reach.Stop.{Stop}
use Rattle.chi_search.specs.declared.words.Words.{Words}
use Rattle.chi_judge.proofs.Earlier.{earlier_explains, explained_earlier}
use Rattle.chi_verdict.proofs.first.stop_of.Goals as goal

-- they do so no later than the time
stops_by : (ops : List Operation) (g w most time : ℕ) (stop : Stop) → IsTrace ops → (IsExplained time ops g w → ⊥) → IsStop ops g w most stop → stop.time ≤ time
stops_by ops g w most time stop traced unexplained is = ⊎_elim later (λ by. by) (cases_lt time stop.time)
  where
    later : time < stop.time → stop.time ≤ time
    later after =
        absurd (unexplained (explained_earlier ops g w time (stop.time - 1) traced (omega (arith, after)) (is.before_it (stop.time - 1) (omega (arith, after)))))

pub returns-in-Stops-clause-by : goal.returns-in-Stops-clause-by
returns-in-Stops-clause-by g c =
    let ops = c.args.ops.now in
    let n = c.args.failing.granule in
    let judge = c.in_ok-judge.judge in
    let said = subst (λ (r : Reach). IfStops r (λ s. (trace : List Operation) (m u : ℕ) → IsJudgeOf trace m u judge → IsStop trace m u judge.shown s)) c.in-Stops.is c.in_ok-stop.ensures.stops in
    stops_by ops n c.word-word.result judge.shown c.args.failing.time c.in-Stops.stop c.requires.traced
    (subst (λ (w : ℕ). IsExplained c.args.failing.time ops n w → ⊥) (sym c.word-word.ensures) c.requires.unexplained)
    (said ops n c.word-word.result c.in_ok-judge.ensures.judge)

pub returns-in-Whole-clause-none : goal.returns-in-Whole-clause-none
returns-in-Whole-clause-none g c none =
    let ops = c.args.ops.now in
    let n = c.args.failing.granule in
    let time = c.args.failing.time in
    let said = subst (λ (r : Reach). IfWhole r (λ (ws : Words). (trace : List Operation) (m u : ℕ) → IsJudgeOf trace m u c.in_ok-judge.judge → AreLast trace m u ws)) c.in-Whole.is c.in_ok-stop.ensures.whole in
    let last = (said ops n c.word-word.result c.in_ok-judge.ensures.judge).some in
    let unexplained = subst (λ (w : ℕ). IsExplained time ops n w → ⊥) (sym c.word-word.ensures) c.requires.unexplained in
    absurd (unexplained (before ops time last.1.0, earlier_explains ops n c.word-word.result time (Some last.0) last.1.0 c.requires.traced last.1.1))
