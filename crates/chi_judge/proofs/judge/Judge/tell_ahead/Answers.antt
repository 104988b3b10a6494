-- they go along all that is kept
use Rattle.std.proofs.Common.{◌≡◌, ◌-◌, ◌++◌, All, List, drop, length, length-drop, take, ap, sym, subst, ◌∙◌, arith}
use Rattle.std.proofs.lemmas.List.{take_all}
use Rattle.chi_trace.specs.declared.operation.Operation.{Operation}
use Rattle.chi_search.specs.Frontiers.{GoesAlong}
use Rattle.chi_judge.specs.Judges.{JudgeValue, Keeps}
use Rattle.chi_judge.proofs.Keeping.{keeps_ahead_of_all, told_rest}
use Rattle.chi_judge.proofs.judge.Judge.tell_ahead.Goals as goal

pub returns-clause-keeps : goal.returns-clause-keeps
returns-clause-keeps c words told now keeps =
    let s = c.self.inside in
    let r : JudgeValue = record { before = s.before; left = s.left.items; shown = s.shown; kept = s.kept.items; ahead = s.ahead.items; seen = s.seen; word = s.word; since = s.since; horizon = s.horizon; latest = s.latest; is_stopped = s.is_stopped } in
    let k : Keeps words told now r = subst (Keeps words told now) (sym c.self.view_is) keeps in
    let ahead = c.in_ok-self-inside.field-0.items in
    let more : c.in-Some.more.now ≡ drop s.seen s.kept.items =
    c.in-Some.ensures.lookup.0.2
    ∙ (take_all (length c.deref.result.now - s.seen) (drop s.seen c.deref.result.now) (omega (arith, length-drop s.seen c.deref.result.now)) ∙ ap (drop s.seen) c.deref.ensures.value) in
    let along : All (GoesAlong words (k.earlier ++ s.kept.items)) ahead = subst (λ (l : List Operation). All (GoesAlong words l) ahead)
    (told_rest words told now r k c.in-Some.more.now more)
    (c.in_ok-self-inside.ensures words (k.earlier ++ take s.seen s.kept.items) (subst (All (GoesAlong words (k.earlier ++ take s.seen s.kept.items))) (sym c.deref-2.ensures.value) k.ahead)) in
    let count : c.len-self-inside-2.result ≡ length s.kept.items = omega arith in
    subst (λ n. Keeps words told now (record r { ahead = ahead; seen = n })) (sym count) (keeps_ahead_of_all words told now r k ahead along)
