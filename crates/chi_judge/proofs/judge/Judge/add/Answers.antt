-- one more is kept, or left out
use Rattle.std.proofs.Common.{◌∷◌, [], ◌++◌, List, sym, subst, arith}
use Rattle.chi_trace.specs.declared.operation.Operation.{Operation}
use Rattle.chi_judge.specs.Judges.{CanBeKept, IsJudge, Keeps, JudgeValue}
use Rattle.chi_judge.proofs.Keeping.{judge_one, keeps_one, keeps_stopped}
use Rattle.chi_judge.proofs.judge.Judge.add.Goals as goal

pub invariant_of-self-then-not-self : goal.invariant_of-self-then-not-self
invariant_of-self-then-not-self c =
    let s = c.self.inside in
    let r : JudgeValue = record { before = s.before; left = s.left.items; shown = s.shown; kept = s.kept.items; ahead = s.ahead.items; seen = s.seen; word = s.word; since = s.since; horizon = s.horizon; latest = s.latest; is_stopped = s.is_stopped } in
    let t = c.args.op.now in
    let can : CanBeKept r t = record { ends = omega arith; starts = omega arith; lasting = omega arith; within = omega arith } in
    let word = c.word_after-self-inside.result in
    subst (λ (kept : List Operation). IsJudge (record r { kept = kept; word = word; latest = t.end })) (sym c.in_ok-keep.ensures.items) (judge_one r t word c.self.invariant can)

pub returns-in_ok-keep-clause-keeps : goal.returns-in_ok-keep-clause-keeps
returns-in_ok-keep-clause-keeps c taken words told now later keeps =
    let s = c.self.inside in
    let r : JudgeValue = record { before = s.before; left = s.left.items; shown = s.shown; kept = s.kept.items; ahead = s.ahead.items; seen = s.seen; word = s.word; since = s.since; horizon = s.horizon; latest = s.latest; is_stopped = s.is_stopped } in
    let t = c.args.op.now in
    let can : CanBeKept r t = record { ends = omega arith; starts = omega arith; lasting = omega arith; within = omega arith } in
    let word = c.word_after-self-inside.result in
    subst (λ (kept : List Operation). Keeps words (told ++ t ∷ []) t.end (record r { kept = kept; word = word; latest = t.end })) (sym c.in_ok-keep.ensures.items)
    (keeps_one words told now r (subst (Keeps words told now) (sym c.self.view_is) keeps) t later can.starts word c.word_after-self-inside.ensures.leaves c.if-not-self.true can.lasting (judge_one r t word c.self.invariant can))

pub returns-else-not-self-clause-keeps : goal.returns-else-not-self-clause-keeps
returns-else-not-self-clause-keeps c taken words told now later keeps =
    let s = c.self.inside in
    let r : JudgeValue = record { before = s.before; left = s.left.items; shown = s.shown; kept = s.kept.items; ahead = s.ahead.items; seen = s.seen; word = s.word; since = s.since; horizon = s.horizon; latest = s.latest; is_stopped = s.is_stopped } in
    let t = c.args.op.now in
    subst (Keeps words (told ++ t ∷ []) t.end) c.self.view_is
    (keeps_stopped words told now r (subst (Keeps words told now) (sym c.self.view_is) keeps) t later (omega arith) c.if-not-self.false)
