-- the words that the granule's operations leave, said of the whole trace
use Rattle.std.proofs.Common.{ℕ, ◌↔◌, List, Some, subst}
use Rattle.std.specs.List.{Contains}
use Rattle.std.proofs.lemmas.Result.{IfOk-weaker}
use Rattle.chi_search.specs.Found.{IfWords}
use Rattle.chi_trace.specs.Granules.{ExplainsGranule}
use Rattle.chi_trace.specs.Traces.{CanHold, IsLegal, TraceValue}
use Rattle.chi_verdict.proofs.HeldAlone.{said_held}
use Rattle.chi_verdict.proofs.held.words_after_all.Goals as goal

pub returns-clause-words : goal.returns-clause-words
returns-clause-words g c =
    let t : TraceValue = record { opening = c.args.opening.now; operations = c.args.ops.now } in
    let Left = λ (w v : ℕ). (own : List ℕ) × ExplainsGranule t.operations c.args.granule w (Some v) own in
    IfOk-weaker c.words_left.result (λ found. IfWords found (λ each. (v : ℕ) → Contains each v ↔ Left c.word.result v))
    (λ found. IfWords found (λ each. (order : List ℕ) → IsLegal t order → (v : ℕ) → Contains each v ↔ CanHold t c.args.granule v))
    (λ found h. said_held c.orders_of_granules_explain.ensures c.parts_explain.ensures t c.requires.words c.requires.traced c.args.granule found
    (subst (λ (w : ℕ). IfWords found (λ each. (v : ℕ) → Contains each v ↔ Left w v)) c.word.ensures h))
    c.words_left.ensures.words
