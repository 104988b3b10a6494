-- an order from one of the positions, or that there is none, in the terms of what was told
use Rattle.std.proofs.Common.{◌≡◌, ℕ, List, length, IfOk, IfSome, sym, subst}
use Rattle.std.specs.List.{Contains}
use Rattle.std.proofs.lemmas.Result.{IfOk-weaker}
use Rattle.chi_trace.specs.declared.operation.Operation.{Operation}
use Rattle.chi_trace.specs.Granules.{Finishes}
use Rattle.chi_search.specs.Found.{IfNothing, IfOrder}
use Rattle.chi_search.specs.Frontiers.{FrontierValue, GoesAlong}
use Rattle.chi_search.specs.Layers.{AreReady, SomeLeads}
use Rattle.chi_search.specs.Paths.{IsDead}
use Rattle.chi_search.specs.Positions.{Position, is_left}
use Rattle.chi_search.specs.StateSets.{positions}
use Rattle.chi_search.proofs.Judging.{EndsAll, IsFrom, LeadsNowhere, LeadsOn, nothing_leads, order_ends, order_leads}
use Rattle.chi_search.proofs.OneWay.{order_along}
use Rattle.chi_search.proofs.frontier.Frontier.order.Goals as goal

pub order_from-requires-clause-ready : goal.order_from-requires-clause-ready
order_from-requires-clause-ready g c =
    subst (λ (ops : List Operation). AreReady ops c.self.inside.states) (sym c.deref.ensures.value) c.self.invariant.ready

pub returns-clause-order : goal.returns-clause-order
returns-clause-order g c =
    subst (λ (f : FrontierValue). IfOk c.order_from.result (λ found. IfOrder found (IsFrom f c.args.final_word))) c.self.view_is
    (subst (λ (ops : List Operation). IfOk c.order_from.result (λ found. IfOrder found (λ x. (p : Position) × Contains (positions c.self.inside.states) p × Finishes ops (is_left (length ops) p) p.word c.args.final_word x)))
    c.deref.ensures.value c.order_from.ensures.order)

pub returns-clause-ends : goal.returns-clause-ends
returns-clause-ends g c =
    IfOk-weaker c.order_from.result (λ found. IfOrder found (IsFrom c.args.self.now c.args.final_word)) (λ found. IfOrder found (EndsAll c.args.self.now))
    (order_ends c.args.self.now c.args.final_word) (returns-clause-order g c)

pub returns-clause-leads : goal.returns-clause-leads
returns-clause-leads g c =
    IfOk-weaker c.order_from.result (λ found. IfOrder found (IsFrom c.args.self.now c.args.final_word)) (λ found. IfOrder found (λ x. LeadsOn c.args.self.now c.args.final_word))
    (order_leads c.args.self.now c.args.final_word) (returns-clause-order g c)

pub returns-clause-nothing : goal.returns-clause-nothing
returns-clause-nothing g c =
    let s = c.self.inside in
    let f : FrontierValue = record { positions = positions s.states; operations = s.operations.items; horizon = s.horizon; latest = s.latest } in
    let none = subst (λ (ops : List Operation). IfOk c.order_from.result (λ found. IfNothing found ((p : Position) → Contains (positions s.states) p → IsDead ops c.args.final_word p)))
    c.deref.ensures.value c.order_from.ensures.nothing in
    subst (λ (g : FrontierValue). IfOk c.order_from.result (λ found. IfNothing found (LeadsNowhere g c.args.final_word))) c.self.view_is
    (IfOk-weaker c.order_from.result (λ found. IfNothing found ((p : Position) → Contains (positions s.states) p → IsDead s.operations.items c.args.final_word p))
    (λ found. IfNothing found (LeadsNowhere f c.args.final_word)) (nothing_leads f c.args.final_word) none)

pub returns-clause-along : goal.returns-clause-along
returns-clause-along g c =
    IfOk-weaker c.order_from.result (λ found. IfOrder found (IsFrom c.args.self.now c.args.final_word)) (λ found. IfOrder found (λ x. (words : List ℕ) (told : List Operation) → GoesAlong words told c.args.self.now → (v : ℕ) × SomeLeads told words v × IfSome c.args.final_word (λ seen. v ≡ seen)))
    (order_along c.args.self.now c.args.final_word) (returns-clause-order g c)
