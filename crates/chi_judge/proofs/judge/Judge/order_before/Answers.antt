-- what an order of what had happened before the horizon says, and what its absence says
use Rattle.std.proofs.Common.{◌≡◌, ℕ, ◌+◌, ◌-◌, ◌<◌, ◌≤◌, false, List, sym, subst, arith}
use Rattle.std.proofs.lemmas.Result.{IfOk-weaker}
use Rattle.chi_trace.specs.Cuts.{cut}
use Rattle.chi_trace.specs.declared.operation.Operation.{Operation}
use Rattle.chi_search.specs.declared.order.Found.{Found}
use Rattle.chi_search.specs.Found.{IfNothing, IfOrder}
use Rattle.chi_search.specs.Layers.{SomeLeads}
use Rattle.chi_judge.specs.Judges.{GoesNowhere, GoesOn, IsNextHorizon, JudgeValue, Keeps, stopped_at}
use Rattle.chi_judge.proofs.Keeping.{cut_before, keeps_none}
use Rattle.chi_judge.proofs.More.{nothing_implies, order_implies}
use Rattle.chi_judge.proofs.judge.Judge.order_before.Goals as goal

-- with an order the horizon is the next, and with none the judge has stopped
abbrev IsNext : JudgeValue → ℕ → Type 0
IsNext r horizon = (words : List ℕ) (told : List Operation) (now : ℕ) → horizon ≤ now + 1 → Keeps words told now r → IsNextHorizon words told now r horizon

abbrev HasStopped : JudgeValue → ℕ → Type 0
HasStopped r horizon = (words : List ℕ) (told : List Operation) (now : ℕ) → Keeps words told now r → Keeps words told now (stopped_at horizon r)

is_next : (r : JudgeValue) (horizon : ℕ) → r.is_stopped ≡ false → r.horizon < horizon → GoesOn r.before (cut (horizon - 1) r.kept) → IsNext r horizon
is_next r horizon goes later on words told now past k =
    let led = on words k.earlier k.follows in
    record {
      later = later;
      past = past;
      goes_on = goes;
      explained = λ time is.
          let same : horizon - 1 ≡ time = omega (arith, is) in (
            led.0,
            subst (λ n. SomeLeads (cut n told) words led.0) same
                (subst (λ (l : List Operation). SomeLeads l words led.0) (sym (cut_before words told now r k horizon goes later)) led.1),
          );
    }

has_stopped : (r : JudgeValue) (horizon : ℕ) → r.is_stopped ≡ false → r.horizon < horizon → GoesNowhere r.before (cut (horizon - 1) r.kept) → HasStopped r horizon
has_stopped r horizon goes later none words told now k =
    keeps_none words told now r k horizon goes later
    (λ v leads. none words k.earlier k.follows v (subst (λ (l : List Operation). SomeLeads l words v) (cut_before words told now r k horizon goes later) leads))

pub returns-clause-order : goal.returns-clause-order
returns-clause-order g c =
    let r = c.args.self.now in
    let inside = c.self.inside in
    let horizon = c.args.horizon in
    IfOk-weaker c.order_by.result (λ (found : Found). IfOrder found (λ order. GoesOn inside.before (cut (horizon - 1) c.deref.result.now))) (λ (found : Found). IfOrder found (λ order. IsNext r horizon))
    (λ found. order_implies found (GoesOn inside.before (cut (horizon - 1) c.deref.result.now)) (IsNext r horizon)
    (λ on. is_next r horizon c.requires.goes_on c.requires.later
    (subst (λ (v : JudgeValue). GoesOn v.before (cut (horizon - 1) v.kept)) c.self.view_is
    (subst (λ (ops : List Operation). GoesOn inside.before (cut (horizon - 1) ops)) c.deref.ensures.value on))))
    c.order_by.ensures.order

pub returns-clause-nothing : goal.returns-clause-nothing
returns-clause-nothing g c =
    let r = c.args.self.now in
    let inside = c.self.inside in
    let horizon = c.args.horizon in
    IfOk-weaker c.order_by.result (λ (found : Found). IfNothing found (GoesNowhere inside.before (cut (horizon - 1) c.deref.result.now))) (λ (found : Found). IfNothing found (HasStopped r horizon))
    (λ found. nothing_implies found (GoesNowhere inside.before (cut (horizon - 1) c.deref.result.now)) (HasStopped r horizon)
    (λ none. has_stopped r horizon c.requires.goes_on c.requires.later
    (subst (λ (v : JudgeValue). GoesNowhere v.before (cut (horizon - 1) v.kept)) c.self.view_is
    (subst (λ (ops : List Operation). GoesNowhere inside.before (cut (horizon - 1) ops)) c.deref.ensures.value none))))
    c.order_by.ensures.nothing
