-- it keeps what had happened before the time
use Rattle.std.proofs.Common.{◌≡◌, ◌≤◌, List, None, sym, ap, subst, ◌∙◌}
use Rattle.chi_trace.specs.declared.operation.Operation.{Operation}
use Rattle.chi_search.specs.Frontiers.{FrontierValue}
use Rattle.chi_judge.specs.Judges.{IsJudge, JudgeValue, Keeps}
use Rattle.chi_judge.specs.Until.{cut_before}
use Rattle.chi_judge.proofs.CutShort.{judge_cut, keeps_cut}
use Rattle.chi_judge.proofs.judge.Judge.cut_before.Goals as goal

pub invariant_of-self : goal.invariant_of-self
invariant_of-self c =
    let s = c.self.inside in
    let r : JudgeValue = record { before = s.before; left = s.left.items; shown = s.shown; kept = s.kept.items; ahead = s.ahead.items; seen = s.seen; word = s.word; since = s.since; horizon = s.horizon; latest = s.latest; is_stopped = s.is_stopped } in
    let kept : c.in_ok-self-inside.field-0.items ≡ cut_before c.args.time s.kept.items = c.in_ok-self-inside.ensures ∙ ap (cut_before c.args.time) c.deref.ensures.value in
    subst (λ (l : List Operation). IsJudge (record r { kept = l; ahead = c.new.result.items; seen = 0; word = None })) (sym kept)
    (subst (λ (ahead : List FrontierValue). IsJudge (record r { kept = cut_before c.args.time s.kept.items; ahead = ahead; seen = 0; word = None })) (sym c.new.ensures.items) (judge_cut c.args.time r c.self.invariant))

pub returns-clause-keeps : goal.returns-clause-keeps
returns-clause-keeps c words told now late keeps =
    let s = c.self.inside in
    let r : JudgeValue = record { before = s.before; left = s.left.items; shown = s.shown; kept = s.kept.items; ahead = s.ahead.items; seen = s.seen; word = s.word; since = s.since; horizon = s.horizon; latest = s.latest; is_stopped = s.is_stopped } in
    let kept : c.in_ok-self-inside.field-0.items ≡ cut_before c.args.time s.kept.items = c.in_ok-self-inside.ensures ∙ ap (cut_before c.args.time) c.deref.ensures.value in
    let from : r.horizon ≤ c.args.time = subst (λ v. v.horizon ≤ c.args.time) (sym c.self.view_is) late in
    subst (λ (l : List Operation). Keeps words (cut_before c.args.time told) now (record r { kept = l; ahead = c.new.result.items; seen = 0; word = None })) (sym kept)
    (subst (λ (ahead : List FrontierValue). Keeps words (cut_before c.args.time told) now (record r { kept = cut_before c.args.time s.kept.items; ahead = ahead; seen = 0; word = None })) (sym c.new.ensures.items)
    (keeps_cut words told now c.args.time r from (subst (Keeps words told now) (sym c.self.view_is) keeps)))
