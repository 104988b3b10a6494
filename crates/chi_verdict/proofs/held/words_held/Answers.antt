-- what is found of the trace's parts, said of the trace
use Rattle.std.proofs.Common.{ℕ, ◌↔◌, List, IfOk, subst}
use Rattle.std.specs.List.{Contains}
use Rattle.chi_search.specs.Found.{IfWords}
use Rattle.chi_trace.specs.declared.operation.Operation.{Operation}
use Rattle.chi_trace.specs.declared.words.GranuleWord.{GranuleWord}
use Rattle.chi_trace.specs.Traces.{CanHold, IsLegal, TraceValue}
use Rattle.chi_verdict.proofs.held.words_held.Goals as goal

pub returns-clause-words : goal.returns-clause-words
returns-clause-words g c =
    let Said = λ (t : TraceValue). IfOk c.words_after_all.result (λ found. IfWords found (λ each. (order : List ℕ) → IsLegal t order → (v : ℕ) → Contains each v ↔ CanHold t c.args.granule v)) in
    subst (λ (ops : List Operation). Said (record { opening = c.args.trace.now.opening; operations = ops })) c.operations.ensures.operations
    (subst (λ (opening : List GranuleWord). Said (record { opening = opening; operations = c.operations.result.now })) c.opening.ensures.words
    c.words_after_all.ensures.words)
