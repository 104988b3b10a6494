-- the search before the others takes those that ended before the horizon, once an order goes up to there
use Rattle.std.proofs.Common.{◌≡◌, ℕ, ◌-◌, ◌<◌, ◌≤◌, ◌⊎◌, List, ◌++◌, All, IfSome, Option, Some, append_assoc, drop, length, length-drop, take, inl, inr, sym, ap, ap₂, subst, ◌∙◌, arith}
use Rattle.std.proofs.lemmas.List.{take-append-drop, take_all}
use Rattle.std.proofs.lemmas.List.Elements.{All-drop, All-take}
use Rattle.chi_trace.specs.declared.operation.Operation.{Operation}
use Rattle.chi_trace.specs.Explains.{at}
use Rattle.chi_search.specs.Frontiers.{Follows, FrontierValue, GoesAlong, MayBeTold}
use Rattle.chi_search.proofs.Looking.{some_after}
use Rattle.chi_search.proofs.Sets.{none_counted}
use Rattle.chi_judge.specs.Judges.{IsJudge, IsNextHorizon, JudgeValue, Keeps, LiesWithin}
use Rattle.chi_judge.specs.Shown.{last_of}
use Rattle.chi_judge.proofs.Keeping.{ahead_of_all, keeps_fewer, known_left}
use Rattle.chi_judge.proofs.judge.Judge.forget.Goals as goal

-- the elements from a place on
rest_is : {X : Type 0} (by : ℕ) (xs : List X) → take (length xs - by) (drop by xs) ≡ drop by xs
rest_is by xs = take_all (length xs - by) (drop by xs) (omega (arith, length-drop by xs))

-- a search that goes on to a horizon no later than the starts of the others may be told them
may_on : (f next : FrontierValue) (least : ℕ) (rest : List Operation) → (next.horizon ≡ least) ⊎ (next.horizon ≡ f.horizon) → next.latest ≡ f.latest → All (λ op. least ≤ op.start) rest
    → MayBeTold f rest → MayBeTold next rest
may_on f next least rest horizon latest starts may = record {
  sorted = may.sorted;
  each = λ i d below.
      let c = may.each i d below in
      let s = starts i d below in
      record {
        lasting = c.lasting;
        starts = elim horizon [ inl early ↦ omega (arith, early, s) | inr same ↦ omega (arith, same, c.starts) ];
        ends = omega (arith, latest, c.ends);
      };
}

-- the operations so far were told to the search, which then went on to a horizon
record GoesOnFrom (r : JudgeValue) (count least horizon : ℕ) (after before : FrontierValue) : Type 0 where
  follows : (words : List ℕ) (told : List Operation) → Follows words told r.before → Follows words (told ++ take count r.kept) before
  next : (rest : List Operation) → MayBeTold r.before (take count r.kept ++ rest) → MayBeTold after rest
  horizon_after : after.horizon ≡ r.before.horizon
  latest_after : (time : ℕ) → r.before.latest ≤ time → All (λ op. op.end ≤ time) (take count r.kept) → after.latest ≤ time
  horizon_before : (before.horizon ≡ least) ⊎ (before.horizon ≡ after.horizon)
  latest_before : before.latest ≡ after.latest
  early : least ≤ horizon
  starts : All (λ op. least ≤ op.start) (drop count r.kept)

from_callees : (r : JudgeValue) (given : List Operation) (count least horizon : ℕ) (told moved : Option FrontierValue) (after before : FrontierValue) → given ≡ r.kept → told ≡ Some after → moved ≡ Some before
    → IfSome told (λ f. (words : List ℕ) (ops : List Operation) → Follows words ops r.before → Follows words (ops ++ take count given) f)
    → IfSome told (λ f. (rest : List Operation) → MayBeTold r.before (take count given ++ rest) → MayBeTold f rest)
    → IfSome told (λ f. f.horizon ≡ r.before.horizon)
    → IfSome told (λ f. (time : ℕ) → r.before.latest ≤ time → All (λ op. op.end ≤ time) (take count given) → f.latest ≤ time)
    → IfSome moved (λ f. (words : List ℕ) (ops : List Operation) → Follows words ops after → Follows words ops f)
    → IfSome moved (λ f. (least ≤ f.horizon) × (after.horizon ≤ f.horizon) × ((f.horizon ≡ least) ⊎ (f.horizon ≡ after.horizon)))
    → IfSome moved (λ f. f.latest ≡ after.latest)
    → least ≤ horizon → All (λ op. least ≤ op.start) (drop count given)
    → GoesOnFrom r count least horizon after before
from_callees r given count least horizon told moved after before same told_is moved_is follows next horizon_after latest_after follows_on horizon_before latest_before early starts = record {
  follows = λ words ops is.
      subst (λ (o : Option FrontierValue). IfSome o (λ f. (ws : List ℕ) (l : List Operation) → Follows ws l after → Follows ws l f)) moved_is follows_on words (ops ++ take count r.kept)
      (subst (λ (l : List Operation). Follows words (ops ++ take count l) after) same
      (subst (λ (o : Option FrontierValue). IfSome o (λ f. (ws : List ℕ) (l : List Operation) → Follows ws l r.before → Follows ws (l ++ take count given) f)) told_is follows words ops is));
  next = subst (λ (l : List Operation). (rest : List Operation) → MayBeTold r.before (take count l ++ rest) → MayBeTold after rest) same
      (subst (λ (o : Option FrontierValue). IfSome o (λ f. (rest : List Operation) → MayBeTold r.before (take count given ++ rest) → MayBeTold f rest)) told_is next);
  horizon_after = subst (λ (o : Option FrontierValue). IfSome o (λ f. f.horizon ≡ r.before.horizon)) told_is horizon_after;
  latest_after = subst (λ (l : List Operation). (time : ℕ) → r.before.latest ≤ time → All (λ op. op.end ≤ time) (take count l) → after.latest ≤ time) same
      (subst (λ (o : Option FrontierValue). IfSome o (λ f. (time : ℕ) → r.before.latest ≤ time → All (λ op. op.end ≤ time) (take count given) → f.latest ≤ time)) told_is latest_after);
  horizon_before = (subst (λ (o : Option FrontierValue). IfSome o (λ f. (least ≤ f.horizon) × (after.horizon ≤ f.horizon) × ((f.horizon ≡ least) ⊎ (f.horizon ≡ after.horizon)))) moved_is horizon_before).2;
  latest_before = subst (λ (o : Option FrontierValue). IfSome o (λ f. f.latest ≡ after.latest)) moved_is latest_before;
  early = early;
  starts = subst (λ (l : List Operation). All (λ op. least ≤ op.start) (drop count l)) same starts;
}

judge_fewer : (r : JudgeValue) (count least horizon : ℕ) (after before : FrontierValue) (left : List Operation) (ahead : List FrontierValue) (seen : ℕ) (word : Option ℕ) → IsJudge r → r.horizon < horizon → GoesOnFrom r count least horizon after before
    → IsJudge (record { before = before; left = left; shown = r.shown; kept = drop count r.kept; ahead = ahead; seen = seen; word = word; since = horizon; horizon = horizon; latest = r.latest; is_stopped = r.is_stopped })
judge_fewer r count least horizon after before left ahead seen word is later on = record {
  next = may_on after before least (drop count r.kept) on.horizon_before on.latest_before on.starts
      (on.next (drop count r.kept) (subst (MayBeTold r.before) (sym (take-append-drop count r.kept)) is.next));
  within = All-drop LiesWithin count r.kept is.within;
  ended = All-drop (λ (op : Operation). op.end ≤ r.latest) count r.kept is.ended;
  horizon_by = elim on.horizon_before [
    | inl so ↦ omega (arith, so, on.early)
    | inr so ↦ omega (arith, so, on.horizon_after, is.horizon_by, later)
  ];
  latest_by =
      let after_by = on.latest_after r.latest is.latest_by (All-take (λ (op : Operation). op.end ≤ r.latest) count r.kept is.ended) in
      omega (arith, on.latest_before, after_by);
}

pub invariant_of-self : goal.invariant_of-self
invariant_of-self g c =
    let s = c.self.inside in
    let r : JudgeValue = record { before = s.before; left = s.left.items; shown = s.shown; kept = s.kept.items; ahead = s.ahead.items; seen = s.seen; word = s.word; since = s.since; horizon = s.horizon; latest = s.latest; is_stopped = s.is_stopped } in
    let count = c.ended_before-count.result in
    let least = c.least_start-least.result in
    let kept : c.in_ok-kept.kept.items ≡ drop count s.kept.items =
    c.in_ok-kept.ensures.items ∙ (rest_is count c.deref-4.result.now ∙ ap (drop count) c.deref-4.ensures.value) in
    let on = from_callees r c.deref-3.result.now count least c.args.horizon _ _ c.in-Some.after c.in-Some-2.before c.deref-3.ensures.value c.in-Some.is c.in-Some-2.is
    c.in_ok-after.ensures.follows c.in_ok-after.ensures.next c.in_ok-after.ensures.horizon c.in_ok-after.ensures.latest
    c.in_ok-before.ensures.follows c.in_ok-before.ensures.horizon c.in_ok-before.ensures.latest c.least_start-least.ensures.time
    (subst (λ (l : List Operation). All (λ op. least ≤ op.start) (drop count l)) (c.deref-2.ensures.value ∙ sym c.deref-3.ensures.value)
    (subst (All (λ (op : Operation). least ≤ op.start)) (rest_is count c.deref-2.result.now) c.least_start-least.ensures.each)) in
    let later : s.horizon < c.args.horizon = subst (λ v. v.horizon < c.args.horizon) (sym c.self.view_is) c.requires.later in
    subst (λ (l : List Operation). IsJudge (record { before = c.in-Some-2.before; left = c.in_ok-last.last.items; shown = s.shown; kept = l; ahead = c.leave_where_few.new.searches.items; seen = c.len-self-inside.result; word = c.in_ok-word.word; since = c.args.horizon; horizon = c.args.horizon; latest = s.latest; is_stopped = s.is_stopped })) (sym kept)
    (judge_fewer r count least c.args.horizon c.in-Some.after c.in-Some-2.before c.in_ok-last.last.items c.leave_where_few.new.searches.items c.len-self-inside.result c.in_ok-word.word c.self.invariant later on)

pub returns-clause-keeps : goal.returns-clause-keeps
returns-clause-keeps g c words told now next keeps =
    let s = c.self.inside in
    let r : JudgeValue = record { before = s.before; left = s.left.items; shown = s.shown; kept = s.kept.items; ahead = s.ahead.items; seen = s.seen; word = s.word; since = s.since; horizon = s.horizon; latest = s.latest; is_stopped = s.is_stopped } in
    let count = c.ended_before-count.result in
    let least = c.least_start-least.result in
    let kept : c.in_ok-kept.kept.items ≡ drop count s.kept.items =
    c.in_ok-kept.ensures.items ∙ (rest_is count c.deref-4.result.now ∙ ap (drop count) c.deref-4.ensures.value) in
    let on = from_callees r c.deref-3.result.now count least c.args.horizon _ _ c.in-Some.after c.in-Some-2.before c.deref-3.ensures.value c.in-Some.is c.in-Some-2.is
    c.in_ok-after.ensures.follows c.in_ok-after.ensures.next c.in_ok-after.ensures.horizon c.in_ok-after.ensures.latest
    c.in_ok-before.ensures.follows c.in_ok-before.ensures.horizon c.in_ok-before.ensures.latest c.least_start-least.ensures.time
    (subst (λ (l : List Operation). All (λ op. least ≤ op.start) (drop count l)) (c.deref-2.ensures.value ∙ sym c.deref-3.ensures.value)
    (subst (All (λ (op : Operation). least ≤ op.start)) (rest_is count c.deref-2.result.now) c.least_start-least.ensures.each)) in
    let k : Keeps words told now r = subst (Keeps words told now) (sym c.self.view_is) keeps in
    let later : IsNextHorizon words told now r c.args.horizon = subst (λ v. IsNextHorizon words told now v c.args.horizon) (sym c.self.view_is) next in
    let judge = judge_fewer r count least c.args.horizon c.in-Some.after c.in-Some-2.before c.in_ok-last.last.items c.leave_where_few.new.searches.items c.len-self-inside.result c.in_ok-word.word c.self.invariant later.later on in
    let left : c.in_ok-last.last.items ≡ last_of s.shown (s.left.items ++ take count s.kept.items) =
    c.in_ok-last.ensures ∙ ap₂ (λ (a b : List Operation). last_of s.shown (a ++ take count b)) c.deref-5.ensures.value c.deref-6.ensures.value in
    let ops = s.kept.items in
    let seen : c.len-self-inside.result ≡ length (drop count ops) = (let here : c.len-self-inside.result ≡ length c.in_ok-kept.kept.items = omega arith in here) ∙ ap (λ (l : List Operation). length l) kept in
    let whole : k.earlier ++ ops ≡ (k.earlier ++ take count ops) ++ take c.len-self-inside.result (drop count ops) =
    ap (λ (l : List Operation). k.earlier ++ l) (sym (take-append-drop count ops))
    ∙ (sym (append_assoc k.earlier (take count ops) (drop count ops))
    ∙ ap (λ (l : List Operation). (k.earlier ++ take count ops) ++ l) (sym (take_all c.len-self-inside.result (drop count ops) (omega (arith, seen))))) in
    let all : r.seen ≡ length r.kept = subst (λ (v : JudgeValue). v.seen ≡ length v.kept) (sym c.self.view_is) c.requires.told in
    let follows = on.follows words k.earlier k.follows in
    let known = known_left words told now r k count c.in-Some-2.before c.in_ok-word.word c.is_empty.result later.goes_on follows
    (λ all. sym kept ∙ none_counted c.in_ok-kept.kept.items c.in_ok-kept.kept.len c.is_empty.result c.in_ok-kept.kept.ok.0 c.is_empty.ensures all)
    c.in_ok-word.ensures.known in
    let along : All (GoesAlong words (k.earlier ++ ops)) c.leave_where_few.new.searches.items = c.leave_where_few.ensures words (k.earlier ++ ops) (ahead_of_all words told now r k all) in
    subst (λ (l : List Operation). Keeps words told now (record { before = c.in-Some-2.before; left = c.in_ok-last.last.items; shown = s.shown; kept = l; ahead = c.leave_where_few.new.searches.items; seen = c.len-self-inside.result; word = c.in_ok-word.word; since = c.args.horizon; horizon = c.args.horizon; latest = s.latest; is_stopped = s.is_stopped })) (sym kept)
    (keeps_fewer words told now r k c.args.horizon count c.in-Some-2.before c.in_ok-last.last.items c.leave_where_few.new.searches.items c.len-self-inside.result c.in_ok-word.word known left later
    (subst (λ (l : List Operation). All (λ op. op.end < c.args.horizon) (take count l)) c.deref.ensures.value c.ended_before-count.ensures.before)
    (subst (λ (l : List Operation). count < length l → c.args.horizon ≤ (at l count).end) c.deref.ensures.value c.ended_before-count.ensures.first)
    follows judge.next (omega (arith, seen))
    (subst (λ (l : List Operation). All (GoesAlong words l) c.leave_where_few.new.searches.items) whole along))

pub returns-clause-looked : goal.returns-clause-looked
returns-clause-looked g c =
    some_after g.P.Progress.looked c.args.progress.now c.advanced.new.progress c.word_once_left.new.progress (_, c.in_ok-before.ensures.spends.1) c.in_ok-word.ensures.looked
