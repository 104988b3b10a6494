-- up to the end before the first place that is not explained they are, and where that is the first of all, up to the time before them
use Rattle.std.proofs.Common.{◌≡◌, ℕ, ◌-◌, ◌<◌, ◌≤◌, ◌⊎◌, false, List, Some, length, slice_index_or, refl, sym, ap, subst, ◌∙◌, ⊎_elim, arith, true≢false}
use Rattle.std.proofs.lemmas.List.{get_or_default}
use Rattle.chi_trace.specs.declared.operation.Operation.{Operation}
use Rattle.chi_trace.specs.Explains.{at, is_answered, nothing}
use Rattle.chi_search.specs.Looks.{LookedAtLeast}
use Rattle.chi_judge.specs.Judges.{JudgeValue}
use Rattle.chi_judge.specs.Reaches.{IsExplained}
use Rattle.chi_judge.proofs.AsFar.{as_far, before_since, so_before_since}
use Rattle.chi_judge.proofs.Reached.{explained_since}
use Rattle.chi_judge.proofs.judge.Judge.explained_to.Goals as goal

pub first_place-requires-clause-seen : goal.first_place-requires-clause-seen
first_place-requires-clause-seen g c i below stopped = absurd (true≢false (sym stopped ∙ c.requires.goes_on))

pub returns-then-place-eq0-clause-explained : goal.returns-then-place-eq0-clause-explained
returns-then-place-eq0-clause-explained g c =
    let r = c.args.self.now in
    let since : c.self.inside.since ≡ r.since = ap (λ (v : JudgeValue). v.since) c.self.view_is in
    so_before_since c.checked_sub.result c.self.inside.since _ c.checked_sub.ensures
    (λ time next trace n w is. explained_since c.granules_stand_alone.ensures trace n w r is time (next ∙ since))

pub returns-then-place-eq0-clause-far : goal.returns-then-place-eq0-clause-far
returns-then-place-eq0-clause-far g c trace n w is =
    let r = c.args.self.now in
    let since : c.self.inside.since ≡ r.since = ap (λ (v : JudgeValue). v.since) c.self.view_is in
    let kept : c.deref.result.now ≡ r.kept = c.deref.ensures.value ∙ ap (λ (v : JudgeValue). v.kept) c.self.view_is in
    let counted : c.deref-2.result.now ≡ r.kept = c.deref-2.ensures.value ∙ (c.in_ok-ops.ensures.items ∙ kept) in
    let tried : c.deref-3.result.now ≡ r.kept = c.deref-3.ensures.value ∙ (c.in_ok-ops.ensures.items ∙ kept) in
    let count = c.answered_count-count.result in
    let least = LookedAtLeast g.P.Progress.looked c.args.progress.now c.first_place.new.progress c.args.budget in
    as_far trace n w r is c.requires.goes_on c.checked_sub.result count c.in_ok-place.place
    (subst (λ (l : List Operation). (i : ℕ) → count ≤ i → i < length l → is_answered (at l i) ≡ false) counted c.answered_count-count.ensures.others)
    (λ op early. before_since c.checked_sub.result c.self.inside.since c.checked_sub.ensures op (omega (arith, early, since)))
    (λ i below. absurd (omega (arith, below, c.if-place-eq0.true)))
    g.P.Progress.looked c.args.progress.now c.first_place.new.progress c.args.budget c.in_ok-place.ensures.within
    (subst (λ (l : List Operation). count ≤ length l) counted c.answered_count-count.ensures.within)
    (subst (λ (l : List Operation). c.in_ok-place.place < count → (IsExplained (at l c.in_ok-place.place).end trace n w → ⊥) ⊎ ((false ≡ false) × least)) tried
    (c.in_ok-place.ensures.unexplained trace n w is))

pub returns-clause-explained : goal.returns-clause-explained
returns-clause-explained g c trace n w is =
    let last = c.in_ok-place.place - 1 in
    let items = c.in_ok-ops.ops.items in
    let counted = c.deref-2.ensures.value in
    let bound = subst (λ (l : List Operation). c.answered_count-count.result ≤ length l) counted c.answered_count-count.ensures.within in
    let within = c.in_ok-place.ensures.within in
    let some = c.if-place-eq0.false in
    let below : last < length items = omega (arith, bound, within, some) in
    let read : c.index.result.now ≡ at items last = c.index.ensures ∙ get_or_default items last c.index.result.now nothing below in
    ⊎_elim
    (λ explained. subst (λ (t : ℕ). IsExplained t trace n w) (ap (λ (o : Operation). o.end) (sym read))
    (subst (λ (l : List Operation). IsExplained (at l last).end trace n w) c.deref-3.ensures.value (explained last (omega (arith, some)))))
    (λ spent. absurd (true≢false (sym spent.0)))
    (c.in_ok-place.ensures.explained trace n w is)

pub returns-clause-far : goal.returns-clause-far
returns-clause-far g c trace n w is =
    let r = c.args.self.now in
    let place = c.in_ok-place.place in
    let last = place - 1 in
    let some = c.if-place-eq0.false in
    let within = c.in_ok-place.ensures.within in
    let count = c.answered_count-count.result in
    let kept : c.deref.result.now ≡ r.kept = c.deref.ensures.value ∙ ap (λ (v : JudgeValue). v.kept) c.self.view_is in
    let items : c.in_ok-ops.ops.items ≡ r.kept = c.in_ok-ops.ensures.items ∙ kept in
    let counted : c.deref-2.result.now ≡ r.kept = c.deref-2.ensures.value ∙ items in
    let tried : c.deref-3.result.now ≡ r.kept = c.deref-3.ensures.value ∙ items in
    let bound = subst (λ (l : List Operation). count ≤ length l) counted c.answered_count-count.ensures.within in
    let below : last < length r.kept = omega (arith, bound, within, some) in
    let read : c.index.result.now ≡ at r.kept last =
    subst (λ (l : List Operation). c.index.result.now ≡ slice_index_or l last c.index.result.now) items c.index.ensures ∙ get_or_default r.kept last c.index.result.now nothing below in
    let end : (at r.kept last).end ≡ c.index.result.now.end = ap (λ (o : Operation). o.end) (sym read) in
    let from = (is.keeps.ends last nothing below).0 in
    let least = LookedAtLeast g.P.Progress.looked c.args.progress.now c.first_place.new.progress c.args.budget in
    as_far trace n w r is c.requires.goes_on (Some c.index.result.now.end) count place
    (subst (λ (l : List Operation). (i : ℕ) → count ≤ i → i < length l → is_answered (at l i) ≡ false) counted c.answered_count-count.ensures.others)
    (λ op early. (c.index.result.now.end, refl, omega (arith, early, from, end)))
    (λ i less under. let sorted = is.keeps.next.sorted.0 i last (omega (arith, less)) below in (c.index.result.now.end, refl, omega (arith, sorted, end)))
    g.P.Progress.looked c.args.progress.now c.first_place.new.progress c.args.budget within bound
    (subst (λ (l : List Operation). place < count → (IsExplained (at l place).end trace n w → ⊥) ⊎ ((false ≡ false) × least)) tried (c.in_ok-place.ensures.unexplained trace n w is))
