-- from the states to the words of the last, where no operation comes later
use Rattle.std.proofs.Common.{ℕ, ◌↔◌, List, ◌++◌, IfSome, None, Option, subst, arith, inl, inr}
use Rattle.chi_trace.specs.declared.operation.Operation.{Operation}
use Rattle.chi_search.specs.declared.states.States.{States}
use Rattle.chi_search.specs.Layers.{MayFollow, SomeEnds, Waits}
use Rattle.chi_search.specs.Positions.{Position}
use Rattle.chi_search.specs.StateSets.{Has}
use Rattle.chi_search.proofs.FirstAndLast.{last_leads}
use Rattle.chi_search.proofs.MovedBack.{ends_all, ready_copied}
use Rattle.chi_search.proofs.words.words_by.Goals as goal

pub advance-requires-clause-ready : goal.advance-requires-clause-ready
advance-requires-clause-ready g c = ready_copied c.args.ops.now c.args.from.now c.in_ok-first.first c.in_ok-first.ensures.has c.requires.ready

pub returns-in_ok-each-in-Some-clause-words : goal.returns-in_ok-each-in-Some-clause-words
returns-in_ok-each-in-Some-clause-words g c =
    let ops = c.args.ops.now in
    let from = c.in_ok-first.first in
    let last = c.in-Some.last in
    let ends = subst (λ (o : Option States). IfSome o (λ states. (more : List Operation) → MayFollow ops None more → (v : ℕ) → SomeEnds (ops ++ more) states v ↔ SomeEnds (ops ++ more) from v))
    c.in-Some.is c.in_ok-last.ensures.ends in
    let waiting = subst (λ (o : Option States). IfSome o (λ states. (p : Position) → Has states p → Waits ops None p.first)) c.in-Some.is c.in_ok-last.ensures.waiting in
    last_leads ops (SomeEnds ops c.args.from.now) c.in_ok-each-in-Some.each.items last waiting c.in_ok-each-in-Some.ensures.words
    (ends_all ops c.args.from.now from last c.requires.sorted c.in_ok-first.ensures.has ends)

pub returns-in-None-clause-unknown : goal.returns-in-None-clause-unknown
returns-in-None-clause-unknown g c = elim (c.in_ok-last.ensures.spent c.in-None.is) [
  | inl spent ↦ spent
  | inr more ↦ absurd (omega (arith, more))
]
