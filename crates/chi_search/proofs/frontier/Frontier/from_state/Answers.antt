-- the search from the one state, told without the operations that it has passed
use Rattle.std.proofs.Common.{◌≡◌, ◌-◌, List, drop, length, length-drop, refl, sym, ap, subst, ◌∙◌, arith, inl, inr}
use Rattle.std.proofs.lemmas.List.{take_all}
use Rattle.chi_trace.specs.declared.operation.Operation.{Operation}
use Rattle.chi_search.specs.Frontiers.{FrontierValue, GoesOnFrom, IsFrontier}
use Rattle.chi_search.specs.Positions.{IsReady, Position, position_of}
use Rattle.chi_search.specs.StateSets.{Has, positions}
use Rattle.chi_search.proofs.Layers.{none_has}
use Rattle.chi_search.proofs.MovedBack.{frontier_back, told_back}
use Rattle.chi_search.proofs.OneWay.{from_back}
use Rattle.chi_search.proofs.frontier.Frontier.from_state.Goals as goal

pub invariant_of-result : goal.invariant_of-result
invariant_of-result c =
    let s = c.self.inside in
    let ops = s.operations.items in
    let by = c.passed-by.result in
    let last = c.add.new.states in
    let back = c.in_ok-states.states in
    let old : FrontierValue = record { positions = positions s.states; operations = ops; horizon = s.horizon; latest = s.latest } in
    let items : c.in_ok-operations.operations.items ≡ drop by ops =
    c.in_ok-operations.ensures.items ∙ take_all (length c.deref.result.now - by) (drop by c.deref.result.now) (omega (arith, length-drop by c.deref.result.now)) ∙ ap (drop by) c.deref.ensures.value in
    let ready : IsReady (length ops) (position_of c.args.state.now) =
    subst (λ (f : FrontierValue). IsReady (length f.operations) (position_of c.args.state.now)) (sym c.self.view_is) c.requires.ready in
    let only : (q : Position) → Has last q → q ≡ position_of c.args.state.now = λ q has. elim ((c.in_ok-add.ensures.has q).0 has) [
      | inl none ↦ absurd (none_has c.no_states-last.result q c.no_states-last.ensures none)
      | inr same ↦ same
    ] in
    subst (λ (ops : List Operation). IsFrontier (record { positions = positions back; operations = ops; horizon = s.horizon; latest = s.latest })) (sym items)
    (frontier_back old s.horizon by last back c.self.invariant (omega arith) c.passed-by.ensures.passed
    (λ q has. subst (IsReady (length ops)) (sym (only q has)) ready) c.in_ok-states.ensures.has)

pub returns-clause-from : goal.returns-clause-from
returns-clause-from c =
    let s = c.self.inside in
    let ops = s.operations.items in
    let by = c.passed-by.result in
    let here = position_of c.args.state.now in
    let last = c.add.new.states in
    let back = c.in_ok-states.states in
    let old : FrontierValue = record { positions = positions s.states; operations = ops; horizon = s.horizon; latest = s.latest } in
    let items : c.in_ok-operations.operations.items ≡ drop by ops =
    c.in_ok-operations.ensures.items ∙ take_all (length c.deref.result.now - by) (drop by c.deref.result.now) (omega (arith, length-drop by c.deref.result.now)) ∙ ap (drop by) c.deref.ensures.value in
    let only : (q : Position) → Has last q → q ≡ here = λ q there. elim ((c.in_ok-add.ensures.has q).0 there) [
      | inl none ↦ absurd (none_has c.no_states-last.result q c.no_states-last.ensures none)
      | inr same ↦ same
    ] in
    subst (λ (ops : List Operation). GoesOnFrom c.args.self.now (record { positions = positions back; operations = ops; horizon = s.horizon; latest = s.latest }) here) (sym items)
    (subst (λ (f : FrontierValue). GoesOnFrom f (told_back old s.horizon by back) here) c.self.view_is
    (from_back old here by last back ((c.in_ok-add.ensures.has here).1 (inr refl)) only (omega arith) c.passed-by.ensures.passed c.in_ok-states.ensures.has))
