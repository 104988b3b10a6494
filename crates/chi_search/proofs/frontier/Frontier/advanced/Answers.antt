-- the states that wait, told without the operations that all have passed
use Rattle.std.proofs.Common.{◌≡◌, ℕ, ◌-◌, ◌≤◌, ◌↔◌, List, ◌++◌, IfSome, Option, Some, drop, take, length, length-drop, refl, sym, ap, subst, ◌∙◌, arith}
use Rattle.std.proofs.lemmas.List.{take_all}
use Rattle.chi_trace.specs.declared.operation.Operation.{Operation}
use Rattle.chi_search.specs.declared.states.States.{States}
use Rattle.chi_search.specs.Frontiers.{Follows, FrontierValue, IsFrontier}
use Rattle.chi_search.specs.Layers.{AreReady, MayFollow, SomeEnds, Waits}
use Rattle.chi_search.specs.Paths.{AreReached}
use Rattle.chi_search.specs.Positions.{Position}
use Rattle.chi_search.specs.StateSets.{Has, positions}
use Rattle.chi_search.proofs.MovedBack.{follows_back, frontier_back, ready_copied, waits_back}
use Rattle.chi_search.proofs.frontier.Frontier.advanced.Goals as goal

-- the operations from a place on
rest : (by : ℕ) (ops : List Operation) → take (length ops - by) (drop by ops) ≡ drop by ops
rest by ops = take_all (length ops - by) (drop by ops) (omega (arith, length-drop by ops))

pub advance-requires-clause-ready : goal.advance-requires-clause-ready
advance-requires-clause-ready g c =
    subst (λ (ops : List Operation). AreReady ops c.in_ok-from.from) (sym c.deref.ensures.value)
    (ready_copied c.self.inside.operations.items c.self.inside.states c.in_ok-from.from c.in_ok-from.ensures.has c.self.invariant.ready)

pub invariant_of-result : goal.invariant_of-result
invariant_of-result g c =
    let s = c.self.inside in
    let problem = c.deref-in-Some.result.now in
    let by = c.passed-by.result in
    let old : FrontierValue = record { positions = positions s.states; operations = s.operations.items; horizon = s.horizon; latest = s.latest } in
    let last = c.in-Some.last in
    let back = c.in_ok-states-in-Some.states in
    let items : c.in_ok-operations-in-Some.operations.items ≡ drop by s.operations.items =
    c.in_ok-operations-in-Some.ensures.items ∙ rest by problem ∙ ap (drop by) c.deref-in-Some.ensures.value in
    let within : by ≤ length s.operations.items = subst (λ (ops : List Operation). by ≤ length ops) c.deref-in-Some.ensures.value (omega arith) in
    let ready = subst (λ (o : Option States). IfSome o (AreReady c.deref.result.now)) c.in-Some.is c.in_ok-last.ensures.ready in
    subst (λ (ops : List Operation). IsFrontier (record { positions = positions back; operations = ops; horizon = c.max-horizon.result; latest = s.latest })) (sym items)
    (frontier_back old c.max-horizon.result by last back c.self.invariant within c.passed-by.ensures.passed
    (subst (λ (ops : List Operation). AreReady ops last) c.deref.ensures.value ready) c.in_ok-states-in-Some.ensures.has)

pub returns-in_ok-operations-in-Some-clause-follows : goal.returns-in_ok-operations-in-Some-clause-follows
returns-in_ok-operations-in-Some-clause-follows g c words told follows =
    let s = c.self.inside in
    let problem = c.deref-in-Some.result.now in
    let by = c.passed-by.result in
    let horizon = c.max-horizon.result in
    let old : FrontierValue = record { positions = positions s.states; operations = s.operations.items; horizon = s.horizon; latest = s.latest } in
    let from = c.in_ok-from.from in
    let last = c.in-Some.last in
    let back = c.in_ok-states-in-Some.states in
    let items : c.in_ok-operations-in-Some.operations.items ≡ drop by s.operations.items =
    c.in_ok-operations-in-Some.ensures.items ∙ rest by problem ∙ ap (drop by) c.deref-in-Some.ensures.value in
    let within : by ≤ length s.operations.items = subst (λ (ops : List Operation). by ≤ length ops) c.deref-in-Some.ensures.value (omega arith) in
    let later : s.horizon ≤ horizon = omega arith in
    let ends = subst (λ (o : Option States). IfSome o (λ states. (more : List Operation) → MayFollow c.deref.result.now (Some horizon) more → (v : ℕ)
    → SomeEnds (c.deref.result.now ++ more) states v ↔ SomeEnds (c.deref.result.now ++ more) from v)) c.in-Some.is c.in_ok-last.ensures.ends in
    subst (λ (ops : List Operation). Follows words told (record { positions = positions back; operations = ops; horizon = horizon; latest = s.latest })) (sym items)
    (follows_back words told old horizon by s.states from last back c.self.invariant refl later within c.passed-by.ensures.passed c.in_ok-from.ensures.has c.in_ok-states-in-Some.ensures.has
    (subst (λ (ops : List Operation). (more : List Operation) → MayFollow ops (Some horizon) more → (v : ℕ) → SomeEnds (ops ++ more) last v ↔ SomeEnds (ops ++ more) from v)
    c.deref.ensures.value ends)
    (subst (λ (ops : List Operation). AreReached ops from last) c.deref.ensures.value
    (subst (λ (o : Option States). IfSome o (AreReached c.deref.result.now from)) c.in-Some.is c.in_ok-last.ensures.reached))
    (subst (Follows words told) (sym c.self.view_is) follows))

pub returns-in_ok-operations-in-Some-clause-waiting : goal.returns-in_ok-operations-in-Some-clause-waiting
returns-in_ok-operations-in-Some-clause-waiting g c =
    let s = c.self.inside in
    let problem = c.deref-in-Some.result.now in
    let by = c.passed-by.result in
    let horizon = c.max-horizon.result in
    let last = c.in-Some.last in
    let back = c.in_ok-states-in-Some.states in
    let items : c.in_ok-operations-in-Some.operations.items ≡ drop by s.operations.items =
    c.in_ok-operations-in-Some.ensures.items ∙ rest by problem ∙ ap (drop by) c.deref-in-Some.ensures.value in
    let within : by ≤ length s.operations.items = subst (λ (ops : List Operation). by ≤ length ops) c.deref-in-Some.ensures.value (omega arith) in
    let waiting = subst (λ (ops : List Operation). (p : Position) → Has last p → Waits ops (Some horizon) p.first) c.deref.ensures.value
    (subst (λ (o : Option States). IfSome o (λ states. (p : Position) → Has states p → Waits c.deref.result.now (Some horizon) p.first)) c.in-Some.is c.in_ok-last.ensures.waiting) in
    subst (λ (ops : List Operation). (p : Position) → Has back p → Waits ops (Some horizon) p.first) (sym items)
    (waits_back s.operations.items horizon by last back within c.passed-by.ensures.passed waiting c.in_ok-states-in-Some.ensures.has)
