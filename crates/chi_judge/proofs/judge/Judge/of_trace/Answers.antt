-- one operation more is told, which ends no earlier than those before it
use Rattle.std.proofs.Common.{◌≡◌, ℕ, ◌+◌, ◌<◌, ◌≤◌, List, [], ◌∷◌, ◌++◌, All, filter, length, take, rules, sym, ap, subst, ◌∙◌, arith}
use Rattle.std.specs.Prelude.{IsPermutation}
use Rattle.std.proofs.lemmas.List.{get_or_default, take_all, take_more}
use Rattle.std.proofs.lemmas.List.Sorted.{All-permutation, IsNonDecreasingBy-from_sort_by_key}
use Rattle.chi_trace.specs.AtPlaces.{is_in}
use Rattle.chi_trace.specs.Explains.{IsOperation, IsTrace, at, nothing}
use Rattle.chi_trace.specs.declared.operation.Operation.{Operation}
use Rattle.chi_trace.proofs.Traced.{all_observed}
use Rattle.chi_trace.proofs.TracedCuts.{IsTrace-filter}
use Rattle.chi_judge.specs.Judges.{Keeps}
use Rattle.chi_judge.proofs.judge.Judge.of_trace.Goals as goal

-- each of a granule's operations lasts and lies within 2^52 bytes, in whichever order they stand
observed : (ops items : List Operation) (g : ℕ) → IsTrace ops → IsPermutation (filter (is_in g) ops) items → All IsOperation items
observed ops items g traced moved =
    All-permutation IsOperation (filter (is_in g) ops) items moved (all_observed (filter (is_in g) ops) (IsTrace-filter (is_in g) ops traced))

pub loop-op-init : goal.loop-op-init
loop-op-init c = record {
  keeps = (0, c.in_ok-judge.ensures.keeps, λ i from below. omega arith);
  horizon = c.in_ok-judge.ensures.untold.0;
  latest = λ i from below. let none = c.in_ok-judge.ensures.untold.1 in omega (arith, none);
  goes_on = c.in_ok-judge.ensures.goes_on;
  shown = c.in_ok-judge.ensures.shown;
}

pub loop-op-preserved : goal.loop-op-preserved
loop-op-preserved c =
    let items = c.deref-op-items.result.now in
    let i = c.loop-op.op-index in
    let op = c.op-item.result in
    let below : i < length items = omega arith in
    let is : op ≡ at items i = c.op-item.is ∙ get_or_default items i op nothing below in
    let grown : take (i + 1) items ≡ take i items ++ op ∷ [] = take_more items i op (omega arith) ∙ ap (λ (o : Operation). take i items ++ o ∷ []) (sym c.op-item.is) in
    let sorted : c.sort_by_key.new.self.items ≡ items = sym c.deref-op-items.ensures.value in
    let moved = subst (IsPermutation (filter (is_in c.args.granule) c.args.ops.now)) sorted (rw c.in_ok-own.ensures at c.sort_by_key.ensures.permutation) in
    let one : IsOperation op = subst IsOperation (sym is) (observed c.args.ops.now items c.args.granule c.requires.traced moved i nothing below) in
    let by_end = subst (λ (l : List Operation). (a b : ℕ) → a ≤ b → b < length l → (at l a).end ≤ (at l b).end) sorted
    (λ a b order inside. IsNonDecreasingBy-from_sort_by_key (λ (o : Operation). o.end) _ c.in_ok-sort_by_key.ensures.sorted (λ x r q k. search rules) a b nothing order inside) in
    let (now, keeps, later) = c.loop-op.invariant.keeps in
    let ends : now ≤ op.end = subst (λ (o : Operation). now ≤ o.end) (sym is) (later i (omega arith) below) in
    let latest : c.loop-op.judge.latest ≤ op.end = subst (λ (o : Operation). c.loop-op.judge.latest ≤ o.end) (sym is) (c.loop-op.invariant.latest i (omega arith) below) in
    let taken = c.in_ok-add.ensures.taken.1 (record { ends = latest; starts = omega (arith, c.loop-op.invariant.horizon); lasting = one.lasting; within = one.within }) in
    record {
      keeps = (
        op.end,
        subst (λ (l : List Operation). Keeps (c.args.word ∷ []) l op.end c.add.new.self) (sym grown)
            (c.in_ok-add.ensures.keeps taken (c.args.word ∷ []) (take i items) now ends keeps),
        λ j from inside. subst (λ (o : Operation). o.end ≤ (at items j).end) (sym is) (by_end i j (omega (arith, from)) inside),
      );
      horizon = c.in_ok-add.ensures.horizon ∙ c.loop-op.invariant.horizon;
      latest = λ j from inside.
          let by = c.in_ok-add.ensures.latest taken in
          let order : op.end ≤ (at items j).end = subst (λ (o : Operation). o.end ≤ (at items j).end) (sym is) (by_end i j (omega (arith, from)) inside) in
          omega (arith, by, order);
      goes_on = c.in_ok-add.ensures.stopped ∙ c.loop-op.invariant.goes_on;
      shown = c.in_ok-add.ensures.shown ∙ c.loop-op.invariant.shown;
    }

pub returns-clause-judge : goal.returns-clause-judge
returns-clause-judge c =
    let items = c.deref-op-items.result.now in
    let (now, keeps, later) = c.loop-op.invariant.keeps in
    let moved = subst (IsPermutation (filter (is_in c.args.granule) c.args.ops.now)) (sym c.deref-op-items.ensures.value) (rw c.in_ok-own.ensures at c.sort_by_key.ensures.permutation) in
    record {
      traced = c.requires.traced;
      told = items;
      now = now;
      moved = moved;
      keeps = subst (λ (l : List Operation). Keeps (c.args.word ∷ []) l now c.loop-op.judge) (take_all c.loop-op.op-index items (omega arith)) keeps;
    }
