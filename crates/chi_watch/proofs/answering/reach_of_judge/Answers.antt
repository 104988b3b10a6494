-- what is said of the operations that are kept, whichever trace they are of
use Rattle.std.proofs.Common.{List, ℕ, IfOk, Result, Ok, Err}
use Rattle.std.proofs.lemmas.Result.{IfOk-weaker}
use Rattle.chi_search.specs.Looks.{LookedAtLeast}
use Rattle.chi_judge.specs.Reaches.{IfStops, IfUndecided, IfWhole, AreLast, IsJudgeOf, IsStop}
use Rattle.chi_judge.specs.Judges.{JudgeValue}
use Rattle.chi_judge.specs.declared.reach.Reach.{Reach}
use Rattle.chi_trace.specs.declared.operation.Operation.{Operation}
use Rattle.chi_watch.specs.Reaching.{IsOfSomeTrace, ReachesBy}
use Rattle.chi_watch.proofs.Reached.{reaches_by, undecided_weaker}
use Rattle.chi_watch.proofs.answering.reach_of_judge.Goals as goal

-- what each kind of answer says
right : {E : Type 0} (r : JudgeValue) (result : Result Reach E) → IfOk result (λ reach. IfWhole reach (λ words. (trace : List Operation) (g w : ℕ) → IsJudgeOf trace g w r → AreLast trace g w words))
    → IfOk result (λ reach. IfStops reach (λ stop. (trace : List Operation) (g w : ℕ) → IsJudgeOf trace g w r → IsStop trace g w r.shown stop)) → IfOk result (ReachesBy r)
right r (Ok reach) whole stops = reaches_by r reach whole stops
right r (Err e) whole stops = tt

pub returns-clause-right : goal.returns-clause-right
returns-clause-right g c = right c.args.judge.now c.reach.result c.reach.ensures.whole c.reach.ensures.stops

pub returns-clause-undecided : goal.returns-clause-undecided
returns-clause-undecided g c =
    let r = c.args.judge.now in
    let whole = LookedAtLeast g.P.Progress.looked c.args.progress.now c.reach.new.progress c.args.budget in
    IfOk-weaker c.reach.result (λ (reach : Reach). IfUndecided reach ((trace : List Operation) (n w : ℕ) → IsJudgeOf trace n w r → whole)) (λ (reach : Reach). IfUndecided reach (IsOfSomeTrace r → whole))
    (λ reach is. undecided_weaker reach (λ looked some. looked some.0 some.1 some.2 some.3) is) c.reach.ensures.undecided
