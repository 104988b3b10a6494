-- one operation more that comes next
use Rattle.std.proofs.Common.{◌≡◌, ℕ, ◌+◌, ◌<◌, List, ◌∷◌, ◌++◌, Some, drop, get_or, length, sym, subst, arith}
use Rattle.std.proofs.lemmas.List.{drop_all, drop_more}
use Rattle.chi_trace.specs.declared.operation.Operation.{Operation}
use Rattle.chi_trace.specs.Explains.{at}
use Rattle.chi_trace.specs.Granules.{Fits}
use Rattle.chi_search.specs.Moves.{CanCome, Comes, Ends}
use Rattle.chi_search.specs.Positions.{IsReady, Position, position_of}
use Rattle.chi_search.proofs.InTurn.{comes_after, comes_first, comes_none, comes_with}
use Rattle.chi_search.proofs.OneWay.{taken_on}
use Rattle.chi_search.proofs.Settling.{left_is}
use Rattle.chi_search.proofs.after.state_after.Goals as goal
use Rattle.chi_search.proofs.after.state_after.Goals.{then-place-ops-via-then-place-ops, then-place-ops-via-else-place-ops+then-state-ops}

pub loop-place-init : goal.loop-place-init
loop-place-init c = record {
  ready = subst (IsReady (length c.args.ops.now)) (sym c.in_ok-state.ensures) c.requires.ready;
  comes = λ q comes. comes;
  leads = λ q comes. (q, comes);
  ends = λ more sorted v ends. ends;
}

pub loop-place-preserved : goal.loop-place-preserved
loop-place-preserved c =
    let ops = c.args.ops.now in
    let order = c.args.order.now in
    let k = c.loop-place.place-index in
    let p = position_of c.loop-place.state in
    let r = position_of c.take.new.next in
    let now : drop k order ≡ get_or order k 0 ∷ drop (k + 1) order = drop_more order k 0 (omega arith) in
    let can = c.in_ok-take.ensures.comes c.if-not-branch.false in
    let takes = c.in_ok-take.ensures.takes c.if-not-branch.false in
    let ready = c.in_ok-take.ensures.ready c.if-not-branch.false in
    record {
      ready = ready;
      comes = λ q comes. c.loop-place.invariant.comes q (subst (λ (l : List ℕ). Comes ops p l q) (sym now) (comes_with ops p r q _ (drop (k + 1) order) ready can takes comes));
      leads = λ q comes.
          let led = c.loop-place.invariant.leads q comes in
          comes_after ops p r led.0 _ (drop (k + 1) order) ready takes (subst (λ (l : List ℕ). Comes ops p l led.0) now led.1);
      ends = λ more sorted v ends.
          c.loop-place.invariant.ends more sorted v
          (taken_on ops more p r _ v sorted (omega arith) (omega arith) can takes (c.in_ok-take.ensures.leaves c.if-not-branch.false) ends);
    }

-- what comes from the first state begins by the operation
begins : (ops : List Operation) (order : List ℕ) (k : ℕ) (p q : Position) → k < length order → Comes ops p (drop k order) q
    → CanCome ops p (get_or order k 0) × Fits (at ops (get_or order k 0)) p.word
begins ops order k p q below comes =
    comes_first ops p q (get_or order k 0) (drop (k + 1) order) (subst (λ (l : List ℕ). Comes ops p l q) (drop_more order k 0 below) comes)

pub returns-then-place-ops-clause-refused : goal.returns-then-place-ops-clause-refused
returns-then-place-ops-clause-refused c none q comes =
    let led = c.loop-place.invariant.leads q (subst (λ (from : Position). Comes c.args.ops.now from c.args.order.now q) (sym c.in_ok-state.ensures) comes) in
    let can = begins c.args.ops.now c.args.order.now c.loop-place.place-index (position_of c.loop-place.state) led.0 (omega arith) led.1 in
    let is = left_is (length c.args.ops.now) (position_of c.loop-place.state) (get_or c.args.order.now c.loop-place.place-index 0) can.0.0 in
    elim c.then-place-ops.branch [
      | then-place-ops-via-then-place-ops w ↦ omega (arith, is.0)
      | then-place-ops-via-else-place-ops+then-state-ops w ↦ omega (arith, is.0, is.1)
    ]

pub returns-then-not-branch-clause-refused : goal.returns-then-not-branch-clause-refused
returns-then-not-branch-clause-refused c none q comes =
    let led = c.loop-place.invariant.leads q (subst (λ (from : Position). Comes c.args.ops.now from c.args.order.now q) (sym c.in_ok-state.ensures) comes) in
    let can = begins c.args.ops.now c.args.order.now c.loop-place.place-index (position_of c.loop-place.state) led.0 (omega arith) led.1 in
    c.in_ok-take.ensures.refused c.if-not-branch.true can.0 can.1

pub returns-clause-comes : goal.returns-clause-comes
returns-clause-comes c =
    let ops = c.args.ops.now in
    let p = position_of c.loop-place.state in
    subst (λ (from : Position). Comes ops from c.args.order.now p) c.in_ok-state.ensures
    (c.loop-place.invariant.comes p (subst (λ (l : List ℕ). Comes ops p l p) (sym (drop_all c.loop-place.place-index c.args.order.now (omega arith))) (comes_none ops p)))

pub returns-clause-ends : goal.returns-clause-ends
returns-clause-ends c = λ more sorted v ends. subst (Ends (c.args.ops.now ++ more) (Some v)) c.in_ok-state.ensures (c.loop-place.invariant.ends more sorted v ends)
