-- the state is one of the search
use Rattle.std.proofs.Common.{◌≡◌, ℕ, ◌≤◌, List, ◌++◌, length, IfSome, Option, Some, sym, ap, subst, ◌∙◌, arith}
use Rattle.std.specs.Prelude.{slice_get}
use Rattle.std.specs.List.{Contains}
use Rattle.chi_trace.specs.declared.operation.Operation.{Operation}
use Rattle.chi_search.specs.declared.state.State.{State}
use Rattle.chi_search.specs.Frontiers.{FrontierValue, IsFrontier}
use Rattle.chi_search.specs.Moves.{Comes, Ends}
use Rattle.chi_search.specs.Positions.{IsReady, position_of}
use Rattle.chi_search.specs.Searchable.{AreSorted}
use Rattle.chi_search.proofs.InTurn.{NoneComes, none_comes, none_comes_at_all}
use Rattle.chi_search.proofs.Layers.{has_at, ready_at}
use Rattle.chi_search.proofs.OneWay.{along_from}
use Rattle.chi_search.proofs.frontier.Frontier.after.Goals as goal

pub state_after-requires-clause-ready : goal.state_after-requires-clause-ready
state_after-requires-clause-ready c =
    subst (λ (ops : List Operation). IsReady (length ops) (position_of c.read.new.to)) (sym c.deref.ensures.value)
    (ready_at c.self.inside.operations.items c.self.inside.states c.loop-place.place (position_of c.read.new.to) c.in_ok-read.ensures c.self.invariant.ready)

pub loop-place-preserved : goal.loop-place-preserved
loop-place-preserved c =
    let f = c.args.self.now in
    let p = position_of c.read.new.to in
    let same : c.deref.result.now ≡ f.operations = c.deref.ensures.value ∙ ap (λ (f : FrontierValue). f.operations) c.self.view_is in
    let here : slice_get f.positions c.loop-place.place ≡ Some p = subst (λ (f : FrontierValue). slice_get f.positions c.loop-place.place ≡ Some p) c.self.view_is c.in_ok-read.ensures in
    let none : NoneComes f.operations c.args.order.now p = subst (λ (ops : List Operation). NoneComes ops c.args.order.now p) same (c.in_ok-last.ensures.refused c.in_default.is) in
    none_comes f.operations c.args.order.now f.positions c.loop-place.place p here c.loop-place.invariant none

pub returns-in-Some-clause-from : goal.returns-in-Some-clause-from
returns-in-Some-clause-from c =
    let f = c.args.self.now in
    let p = position_of c.read.new.to in
    let q = position_of c.in-Some.last in
    let same : c.deref.result.now ≡ f.operations = c.deref.ensures.value ∙ ap (λ (f : FrontierValue). f.operations) c.self.view_is in
    let comes = subst (λ (o : Option State). IfSome o (λ t. Comes c.deref.result.now p c.args.order.now (position_of t))) c.in-Some.is c.in_ok-last.ensures.comes in (
      p,
      q,
      subst (λ (f : FrontierValue). Contains f.positions p) c.self.view_is (has_at c.self.inside.states c.loop-place.place p c.in_ok-read.ensures),
      subst (λ (ops : List Operation). Comes ops p c.args.order.now q) same comes,
      c.in_ok-next.ensures.from,
    )

pub returns-in-Some-clause-along : goal.returns-in-Some-clause-along
returns-in-Some-clause-along c words told along =
    let f = c.args.self.now in
    let p = position_of c.read.new.to in
    let q = position_of c.in-Some.last in
    let same : c.deref.result.now ≡ f.operations = c.deref.ensures.value ∙ ap (λ (f : FrontierValue). f.operations) c.self.view_is in
    let ends = subst (λ (o : Option State). IfSome o (λ t. (more : List Operation) → AreSorted (c.deref.result.now ++ more) → (v : ℕ) → Ends (c.deref.result.now ++ more) (Some v) (position_of t) → Ends (c.deref.result.now ++ more) (Some v) p))
    c.in-Some.is c.in_ok-last.ensures.ends in
    along_from words told f c.in_ok-next.next p q (subst IsFrontier c.self.view_is c.self.invariant)
    (subst (λ (f : FrontierValue). Contains f.positions p) c.self.view_is (has_at c.self.inside.states c.loop-place.place p c.in_ok-read.ensures))
    (subst (λ (ops : List Operation). (more : List Operation) → AreSorted (ops ++ more) → (v : ℕ) → Ends (ops ++ more) (Some v) q → Ends (ops ++ more) (Some v) p) same ends)
    c.in_ok-next.ensures.from c.in_ok-next.ensures.told along

pub returns-clause-refused : goal.returns-clause-refused
returns-clause-refused c none =
    let f = c.args.self.now in
    let whole : length f.positions ≤ c.loop-place.place = subst (λ (f : FrontierValue). length f.positions ≤ c.loop-place.place) c.self.view_is (omega arith) in
    none_comes_at_all f.operations c.args.order.now f.positions c.loop-place.place whole c.loop-place.invariant
