-- up to the last end no order explains them
use Rattle.std.proofs.Common.{◌≡◌, ℕ, ◌-◌, ◌<◌, ◌≤◌, true, false, List, All, length, take, sym, ap, subst, ◌∙◌, arith}
use Rattle.std.proofs.lemmas.Result.{IfOk-weaker}
use Rattle.chi_search.specs.declared.order.Found.{Found}
use Rattle.chi_search.specs.Found.{IfNothing, IfOrder, IfUndecided as IfNeither}
use Rattle.chi_search.specs.Frontiers.{MayBeTold}
use Rattle.chi_search.specs.Looks.{LookedMore}
use Rattle.chi_trace.specs.Explains.{at}
use Rattle.chi_trace.specs.declared.operation.Operation.{Operation}
use Rattle.chi_search.proofs.Looking.{at_least_after, some_after}
use Rattle.chi_judge.specs.Reaches.{IsExplained, IsJudgeOf, MissesNone}
use Rattle.chi_judge.specs.Judges.{GoesNowhere, GoesOn, LiesWithin, JudgeValue}
use Rattle.chi_judge.specs.declared.reach.Stop.{Stop}
use Rattle.chi_judge.proofs.More.{misses_none_after, ok_stops_imply, ok_undecided_implies, told_kept}
use Rattle.chi_judge.proofs.Stopping.{last_before, last_of_all}
use Rattle.chi_judge.proofs.judge.Judge.reach.Goals as goal

pub stop_within-requires-clause-last : goal.stop_within-requires-clause-last
stop_within-requires-clause-last g c trace n w is =
    let r = c.args.self.now in
    let count = c.ended_before-count.result in
    let more = c.deref-then-self.result.now in
    let high : c.self.inside.horizon ≡ r.horizon = ap (λ (v : JudgeValue). v.horizon) c.self.view_is in
    let stopped : r.is_stopped ≡ true = ap (λ (v : JudgeValue). v.is_stopped) (sym c.self.view_is) ∙ c.if-self.true in
    let before = subst (λ (h : ℕ). All (λ (op : Operation). op.end < h) (take count more)) high c.ended_before-count.ensures.before in
    let first = subst (λ (h : ℕ). count < length more → h ≤ (at more count).end) high c.ended_before-count.ensures.first in
    let kept : c.deref.result.now ≡ r.kept = c.deref.ensures.value ∙ ap (λ (v : JudgeValue). v.kept) c.self.view_is in
    let ops_is : more ≡ r.kept = c.deref-then-self.ensures.value ∙ (c.in_ok-ops.ensures.items ∙ kept) in
    let same : more ≡ c.deref-then-self-2.result.now = c.deref-then-self.ensures.value ∙ sym c.deref-then-self-2.ensures.value in
    subst (λ (l : List Operation). (0 < count) × (IsExplained (at l (count - 1)).end trace n w → ⊥)) same
    (last_before c.granules_stand_alone.ensures r more count ops_is stopped c.ended_before-count.ensures.within before first trace n w is)

pub whole-requires-clause-explained : goal.whole-requires-clause-explained
whole-requires-clause-explained g c =
    let on = subst (λ (f : Found). IfOrder f (λ order. GoesOn c.self.inside.before c.deref-2.result.now)) c.in-Order.is c.in_ok-order_after.ensures.order in
    subst (λ (v : JudgeValue). GoesOn v.before v.kept) c.self.view_is
    (subst (GoesOn c.self.inside.before) (c.deref-2.ensures.value ∙ (c.in_ok-ops.ensures.items ∙ c.deref.ensures.value)) on)

pub stop_within-requires-in-Nothing-clause-last : goal.stop_within-requires-in-Nothing-clause-last
stop_within-requires-in-Nothing-clause-last g c trace n w is =
    let r = c.args.self.now in
    let more = c.deref-in-Nothing.result.now in
    let goes : r.is_stopped ≡ false = ap (λ (v : JudgeValue). v.is_stopped) (sym c.self.view_is) ∙ c.if-self.false in
    let kept : c.deref.result.now ≡ r.kept = c.deref.ensures.value ∙ ap (λ (v : JudgeValue). v.kept) c.self.view_is in
    let ops_is : more ≡ r.kept = c.deref-in-Nothing.ensures.value ∙ (c.in_ok-ops.ensures.items ∙ kept) in
    let none = subst (λ (f : Found). IfNothing f (GoesNowhere c.self.inside.before c.deref-2.result.now)) c.in-Nothing.is c.in_ok-order_after.ensures.nothing in
    last_of_all c.granules_stand_alone.ensures r more c.len.result ops_is goes
    (c.len.ensures ∙ (c.in_ok-ops.ops.ok.0 ∙ ap length (sym c.deref-in-Nothing.ensures.value)))
    (subst (λ (v : JudgeValue). GoesNowhere v.before v.kept) c.self.view_is
    (subst (GoesNowhere c.self.inside.before) (c.deref-2.ensures.value ∙ (c.in_ok-ops.ensures.items ∙ c.deref.ensures.value)) none))
    trace n w is

pub returns-in-Order-clause-undecided : goal.returns-in-Order-clause-undecided
returns-in-Order-clause-undecided g c = ok_undecided_implies c.whole.result (λ none looked. absurd none) c.whole.ensures.undecided c.whole.ensures.looked

pub returns-in-Order-clause-all : goal.returns-in-Order-clause-all
returns-in-Order-clause-all g c =
    ok_stops_imply c.whole.result (λ stop. ⊥) (λ stop. (trace : List Operation) (n w : ℕ) → IsJudgeOf trace n w c.args.self.now → MissesNone g.P.Progress.looked c.args.progress.now c.whole.new.progress c.args.budget trace n w stop)
    (λ stop looked none. absurd none) c.whole.ensures.stops c.whole.ensures.looked

pub returns-in-Nothing-clause-all : goal.returns-in-Nothing-clause-all
returns-in-Nothing-clause-all g c =
    let looked = g.P.Progress.looked in
    let misses : _ → _ → Stop → Type 0 = λ old new stop. (trace : List Operation) (n w : ℕ) → IsJudgeOf trace n w c.args.self.now → MissesNone looked old new c.args.budget trace n w stop in
    ok_stops_imply c.stop_within-in-Nothing.result (misses c.order_after.new.progress c.stop_within-in-Nothing.new.progress) (misses c.args.progress.now c.stop_within-in-Nothing.new.progress)
    (λ stop some all trace n w is. misses_none_after looked c.args.progress.now c.order_after.new.progress c.stop_within-in-Nothing.new.progress c.args.budget trace n w stop c.in_ok-order_after.ensures.looked
    (all trace n w is))
    c.stop_within-in-Nothing.ensures.all c.stop_within-in-Nothing.ensures.looked

pub returns-in-Order-clause-looked : goal.returns-in-Order-clause-looked
returns-in-Order-clause-looked g c =
    IfOk-weaker c.whole.result _ _
    (λ reach looked. some_after g.P.Progress.looked c.args.progress.now c.order_after.new.progress c.whole.new.progress c.in_ok-order_after.ensures.looked looked)
    c.whole.ensures.looked

pub returns-in-Nothing-clause-undecided : goal.returns-in-Nothing-clause-undecided
returns-in-Nothing-clause-undecided g c =
    ok_undecided_implies c.stop_within-in-Nothing.result
    (λ undecided looked trace n w is. at_least_after g.P.Progress.looked c.args.progress.now c.order_after.new.progress c.stop_within-in-Nothing.new.progress c.args.budget
    c.in_ok-order_after.ensures.looked (undecided trace n w is))
    c.stop_within-in-Nothing.ensures.undecided c.stop_within-in-Nothing.ensures.looked

pub returns-in-Nothing-clause-looked : goal.returns-in-Nothing-clause-looked
returns-in-Nothing-clause-looked g c =
    IfOk-weaker c.stop_within-in-Nothing.result _ _
    (λ reach looked. some_after g.P.Progress.looked c.args.progress.now c.order_after.new.progress c.stop_within-in-Nothing.new.progress c.in_ok-order_after.ensures.looked looked)
    c.stop_within-in-Nothing.ensures.looked

pub returns-clause-undecided : goal.returns-clause-undecided
returns-clause-undecided g c trace n w is =
    let r = c.args.self.now in
    let more = LookedMore g.P.Progress.looked c.args.progress.now c.order_after.new.progress c.args.budget in
    let ops_is : c.deref-2.result.now ≡ r.kept = c.deref-2.ensures.value ∙ (c.in_ok-ops.ensures.items ∙ (c.deref.ensures.value ∙ ap (λ (v : JudgeValue). v.kept) c.self.view_is)) in
    let said = subst (λ (f : Found). IfNeither f (MayBeTold c.self.inside.before c.deref-2.result.now → All LiesWithin c.deref-2.result.now → more)) c.in-Undecided.is c.in_ok-order_after.ensures.undecided in
    (c.args.budget, omega arith, told_kept c.self.inside.before c.deref-2.result.now r (ap (λ (v : JudgeValue). v.before) c.self.view_is) ops_is said trace n w is)
