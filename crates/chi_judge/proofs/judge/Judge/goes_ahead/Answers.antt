-- the search along one order more
use Rattle.std.proofs.Common.{◌≡◌, ◌-◌, ◌+◌, ◌<◌, ◌≤◌, ℕ, ◌++◌, false, All, IfSome, List, Some, Option, length, ap, sym, subst, ◌∙◌, arith}
use Rattle.chi_trace.specs.declared.operation.Operation.{Operation}
use Rattle.chi_search.specs.Frontiers.{Follows, FrontierValue, GoesAlong}
use Rattle.chi_trace.specs.Segments.{AreLasting}
use Rattle.chi_judge.specs.Judges.{IsNextHorizon, JudgeValue, Keeps, LeadsBy}
use Rattle.chi_judge.proofs.Keeping.{ahead_of_all, known_before, keeps_ahead_of_all, told_kept, told_lasting}
use Rattle.chi_judge.proofs.judge.Judge.goes_ahead.Goals as goal

pub returns-in_ok-keep_along-in-Some-clause-keeps : goal.returns-in_ok-keep_along-in-Some-clause-keeps
returns-in_ok-keep_along-in-Some-clause-keeps g c words told now keeps =
    let s = c.self.inside in
    let r : JudgeValue = record { before = s.before; left = s.left.items; shown = s.shown; kept = s.kept.items; ahead = s.ahead.items; seen = s.seen; word = s.word; since = s.since; horizon = s.horizon; latest = s.latest; is_stopped = s.is_stopped } in
    let k : Keeps words told now r = subst (Keeps words told now) (sym c.self.view_is) (c.in_ok-tell_ahead.ensures.keeps words told now keeps) in
    let same = c.in_ok-tell_ahead.ensures.same in
    let told_all : c.tell_ahead.new.self.seen ≡ length c.tell_ahead.new.self.kept = ap (λ (v : JudgeValue). v.seen) same ∙ ap (λ (v : JudgeValue). length v.kept) (sym same) in
    let all : r.seen ≡ length r.kept = subst (λ (v : JudgeValue). v.seen ≡ length v.kept) (sym c.self.view_is) told_all in
    let found = subst (λ (kept : List Operation). (words : List ℕ) (told : List Operation) → Follows words told s.before → All (GoesAlong words (told ++ kept)) c.deref-2.result.now → GoesAlong words (told ++ kept) c.in-Some.next)
    c.deref.ensures.value
    (subst (λ (o : Option (ℕ × FrontierValue)). IfSome o (λ next. (words : List ℕ) (told : List Operation) → Follows words told s.before → All (GoesAlong words (told ++ c.deref.result.now)) c.deref-2.result.now → GoesAlong words (told ++ c.deref.result.now) next.1))
    c.in-Some.is c.in_ok-count.ensures.along) in
    let along : All (GoesAlong words (k.earlier ++ r.kept)) c.keep_along.new.searches.items =
    c.in_ok-keep_along-in-Some.ensures words (k.earlier ++ r.kept) (ahead_of_all words told now r k all)
    (found words k.earlier k.follows (subst (All (GoesAlong words (k.earlier ++ r.kept))) (sym c.deref-2.ensures.value) (ahead_of_all words told now r k all))) in
    subst (λ n. Keeps words told now (record r { ahead = c.keep_along.new.searches.items; seen = n })) (sym all) (keeps_ahead_of_all words told now r k c.keep_along.new.searches.items along)

-- where what had happened before the horizon leads to some word it is the next one
next_at : (words : List ℕ) (told : List Operation) (now horizon : ℕ) (old new : JudgeValue) → old.horizon < horizon → old.is_stopped ≡ false → new.horizon ≡ old.horizon → new.is_stopped ≡ old.is_stopped
    → horizon ≤ now + 1 → LeadsBy (horizon - 1) words told → IsNextHorizon words told now new horizon
next_at words told now horizon old new later goes same_horizon same_stopped past led = record {
  later = omega (arith, same_horizon, later);
  past = past;
  goes_on = same_stopped ∙ goes;
  explained = λ time is. (let same : horizon - 1 ≡ time = omega (arith, is) in subst (λ n. LeadsBy n words told) same led);
}

pub returns-then-is_known_before-clause-next : goal.returns-then-is_known_before-clause-next
returns-then-is_known_before-clause-next g c is_true words told now past keeps =
    let s = c.self.inside in
    let r : JudgeValue = record { before = s.before; left = s.left.items; shown = s.shown; kept = s.kept.items; ahead = s.ahead.items; seen = s.seen; word = s.word; since = s.since; horizon = s.horizon; latest = s.latest; is_stopped = s.is_stopped } in
    let k : Keeps words told now r = subst (Keeps words told now) (sym c.self.view_is) (c.in_ok-tell_ahead.ensures.keeps words told now keeps) in
    let same = c.in_ok-tell_ahead.ensures.same in
    let inside_horizon : s.horizon ≡ c.args.self.now.horizon = ap (λ (v : JudgeValue). v.horizon) c.self.view_is ∙ ap (λ (v : JudgeValue). v.horizon) same in
    let inside_stopped : s.is_stopped ≡ c.args.self.now.is_stopped = ap (λ (v : JudgeValue). v.is_stopped) c.self.view_is ∙ ap (λ (v : JudgeValue). v.is_stopped) same in
    let known = subst (λ (j : JudgeValue). (v : ℕ) × (j.word ≡ Some v) × (j.latest < c.args.horizon)) (sym c.self.view_is) (c.is_known_before.ensures c.if-is_known_before.true) in
    let led = known_before words told now r k c.args.horizon known.0 (inside_stopped ∙ c.requires.goes_on) (omega (arith, inside_horizon, c.requires.later)) known.2 c.self.invariant.ended known.1 in
    next_at words told now c.args.horizon c.args.self.now c.tell_ahead.new.self c.requires.later c.requires.goes_on (ap (λ (v : JudgeValue). v.horizon) same) (ap (λ (v : JudgeValue). v.is_stopped) same) past led

pub returns-in_ok-keep_along-in-Some-clause-next : goal.returns-in_ok-keep_along-in-Some-clause-next
returns-in_ok-keep_along-in-Some-clause-next g c is_true words told now past keeps =
    let s = c.self.inside in
    let r : JudgeValue = record { before = s.before; left = s.left.items; shown = s.shown; kept = s.kept.items; ahead = s.ahead.items; seen = s.seen; word = s.word; since = s.since; horizon = s.horizon; latest = s.latest; is_stopped = s.is_stopped } in
    let k : Keeps words told now r = subst (Keeps words told now) (sym c.self.view_is) (c.in_ok-tell_ahead.ensures.keeps words told now keeps) in
    let same = c.in_ok-tell_ahead.ensures.same in
    let told_all : c.tell_ahead.new.self.seen ≡ length c.tell_ahead.new.self.kept = ap (λ (v : JudgeValue). v.seen) same ∙ ap (λ (v : JudgeValue). length v.kept) (sym same) in
    let all : r.seen ≡ length r.kept = subst (λ (v : JudgeValue). v.seen ≡ length v.kept) (sym c.self.view_is) told_all in
    let inside_horizon : s.horizon ≡ c.args.self.now.horizon = ap (λ (v : JudgeValue). v.horizon) c.self.view_is ∙ ap (λ (v : JudgeValue). v.horizon) same in
    let inside_stopped : s.is_stopped ≡ c.args.self.now.is_stopped = ap (λ (v : JudgeValue). v.is_stopped) c.self.view_is ∙ ap (λ (v : JudgeValue). v.is_stopped) same in
    let goes : r.is_stopped ≡ false = inside_stopped ∙ c.requires.goes_on in
    let found = subst (λ (kept : List Operation). (words : List ℕ) (told : List Operation) → AreLasting (told ++ kept) → Follows words told s.before → All (GoesAlong words (told ++ kept)) c.deref-2.result.now → LeadsBy (c.args.horizon - 1) words (told ++ kept))
    c.deref.ensures.value
    (subst (λ (o : Option (ℕ × FrontierValue)). IfSome o (λ next. (words : List ℕ) (told : List Operation) → AreLasting (told ++ c.deref.result.now) → Follows words told s.before → All (GoesAlong words (told ++ c.deref.result.now)) c.deref-2.result.now → LeadsBy (c.args.horizon - 1) words (told ++ c.deref.result.now)))
    c.in-Some.is c.in_ok-count.ensures.leads) in
    let lasting : AreLasting (k.earlier ++ r.kept) = subst AreLasting (told_kept words told now r k goes) (told_lasting words told now r k goes) in
    let led : LeadsBy (c.args.horizon - 1) words told = subst (LeadsBy (c.args.horizon - 1) words) (sym (told_kept words told now r k goes))
    (found words k.earlier lasting k.follows (subst (All (GoesAlong words (k.earlier ++ r.kept))) (sym c.deref-2.ensures.value) (ahead_of_all words told now r k all))) in
    next_at words told now c.args.horizon c.args.self.now _ c.requires.later c.requires.goes_on inside_horizon inside_stopped past led
