-- one operation more
use Rattle.std.proofs.Common.{◌≡◌, ℕ, ◌+◌, ◌^◌, ◌<◌, ◌≤◌, List, [], ◌∷◌, drop, get_or, length, refl, sym, subst, ap, ◌∙◌, arith}
use Rattle.std.proofs.lemmas.List.{drop_all, drop_more, get_or_default}
use Rattle.chi_trace.specs.declared.operation.Operation.{Operation}
use Rattle.chi_trace.specs.Explains.{at, nothing}
use Rattle.chi_trace.specs.Granules.{Fits, Play, last_word, next}
use Rattle.chi_search.proofs.along.played.Goals as goal

-- an order whose next operation does not fit does not go on
refused : (ops : List Operation) (w i : ℕ) (order : List ℕ) → (Fits (at ops i) w → ⊥) → Play ops w (i ∷ order) → ⊥
unfolding Play
refused ops w i order unfit plays = unfit plays.0

-- one whose next operation fits goes on from what that leaves
taken_on : (ops : List Operation) (w i after : ℕ) (order : List ℕ) → Fits (at ops i) w → after ≡ next (at ops i) w → after < 2 ^ 64
    → Play ops after order → Play ops w (i ∷ order)
unfolding Play
taken_on ops w i after order fits is below plays = (fits, subst (λ n. n < 2 ^ 64) is below, subst (λ n. Play ops n order) is plays)

taken_back : (ops : List Operation) (w i after : ℕ) (order : List ℕ) → after ≡ next (at ops i) w → Play ops w (i ∷ order) → Play ops after order
unfolding Play
taken_back ops w i after order is plays = subst (λ n. Play ops n order) (sym is) plays.2

same_last : (ops : List Operation) (w i after : ℕ) (order : List ℕ) → after ≡ next (at ops i) w → last_word ops w (i ∷ order) ≡ last_word ops after order
unfolding last_word
same_last ops w i after order is = ap (λ n. last_word ops n order) (sym is)

-- of an order that is done nothing is left
done : (order : List ℕ) (k : ℕ) → length order ≤ k → drop k order ≡ []
done order k past = drop_all k order past

pub returns-then-place-ops : goal.returns-then-place-ops
returns-then-place-ops c = record {
  leaves = tt;
  unfit = λ _ all plays. omega (arith, all c.loop-place.place-index 0 c.loop-place-test.true, c.if-place-ops.true);
}

pub returns-in_err-left-clause-unfit : goal.returns-in_err-left-clause-unfit
returns-in_err-left-clause-unfit c _ all plays =
    let ops = c.args.ops.now in
    let order = c.args.order.now in
    let k = c.loop-place.place-index in
    let i : ℕ = get_or order k 0 in
    let op : c.index-ops-place.result ≡ at ops i = c.index-ops-place.is ∙ get_or_default ops i c.index-ops-place.result nothing c.if-place-ops.false in
    refused ops c.loop-place.left i (drop (k + 1) order)
    (λ fits. c.step.ensures.unfit c.in_err-left.was (subst (λ (x : Operation). Fits x c.loop-place.left) (sym op) fits))
    (subst (Play ops c.loop-place.left) (drop_more order k 0 c.loop-place-test.true) (c.loop-place.invariant.back plays))

pub loop-place-preserved : goal.loop-place-preserved
loop-place-preserved c =
    let ops = c.args.ops.now in
    let order = c.args.order.now in
    let k = c.loop-place.place-index in
    let w = c.loop-place.left in
    let i : ℕ = get_or order k 0 in
    let left : List ℕ = drop (k + 1) order in
    let whole : drop k order ≡ i ∷ left = drop_more order k 0 c.loop-place-test.true in
    let op : c.index-ops-place.result ≡ at ops i = c.index-ops-place.is ∙ get_or_default ops i c.index-ops-place.result nothing c.if-place-ops.false in
    let fits : Fits (at ops i) w = subst (λ (x : Operation). Fits x w) op c.in_ok-left.ensures.fits in
    let after : c.in_ok-left.left ≡ next (at ops i) w = subst (λ (x : Operation). c.in_ok-left.left ≡ next x w) op c.in_ok-left.ensures.after in
    record {
      forth = λ plays. c.loop-place.invariant.forth (subst (Play ops w) (sym whole) (taken_on ops w i c.in_ok-left.left left fits after (omega arith) plays));
      back = λ plays. taken_back ops w i c.in_ok-left.left left after (subst (Play ops w) whole (c.loop-place.invariant.back plays));
      last = c.loop-place.invariant.last ∙ ap (last_word ops w) whole ∙ same_last ops w i c.in_ok-left.left left after;
    }

pub returns-clause-leaves : goal.returns-clause-leaves
unfolding Play last_word
returns-clause-leaves c =
    let none : drop c.loop-place.place-index c.args.order.now ≡ [] = done c.args.order.now c.loop-place.place-index c.loop-place-test.false in (
      c.loop-place.invariant.forth (subst (Play c.args.ops.now c.loop-place.left) (sym none) tt),
      c.loop-place.invariant.last ∙ ap (last_word c.args.ops.now c.loop-place.left) none,
    )
