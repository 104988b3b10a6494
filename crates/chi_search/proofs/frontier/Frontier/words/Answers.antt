-- the words to which the search goes on, in the terms of what was told
use Rattle.std.proofs.Common.{ℕ, ◌↔◌, List, IfOk, sym, subst}
use Rattle.std.specs.List.{Contains}
use Rattle.std.proofs.lemmas.Result.{IfOk-weaker}
use Rattle.chi_trace.specs.declared.operation.Operation.{Operation}
use Rattle.chi_search.specs.Found.{IfWords}
use Rattle.chi_search.specs.Frontiers.{FrontierValue}
use Rattle.chi_search.specs.Layers.{AreReady, SomeEnds}
use Rattle.chi_search.specs.StateSets.{positions}
use Rattle.chi_search.proofs.Judging.{AreLed, AreTold, words_told}
use Rattle.chi_search.proofs.frontier.Frontier.words.Goals as goal

pub words_from-requires-clause-ready : goal.words_from-requires-clause-ready
words_from-requires-clause-ready g c =
    subst (λ (ops : List Operation). AreReady ops c.self.inside.states) (sym c.deref.ensures.value) c.self.invariant.ready

pub returns-clause-words : goal.returns-clause-words
returns-clause-words g c =
    let s = c.self.inside in
    let f : FrontierValue = record { positions = positions s.states; operations = s.operations.items; horizon = s.horizon; latest = s.latest } in
    let all = subst (λ (ops : List Operation). IfOk c.words_from.result (λ found. IfWords found (λ each. (v : ℕ) → Contains each v ↔ SomeEnds ops s.states v)))
    c.deref.ensures.value c.words_from.ensures.words in
    subst (λ (g : FrontierValue). IfOk c.words_from.result (λ found. IfWords found (AreTold g))) c.self.view_is
    (IfOk-weaker c.words_from.result (λ found. IfWords found (AreLed f)) (λ found. IfWords found (AreTold f)) (words_told f) all)
