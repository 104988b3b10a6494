-- from the first states
use Rattle.std.proofs.lemmas.Result.{IfOk-weaker}
use Rattle.std.proofs.Common.{ℕ, ◌↔◌, List}
use Rattle.std.specs.List.{Contains}
use Rattle.chi_search.specs.Found.{IfWords}
use Rattle.chi_search.specs.Layers.{SomeEnds, SomeLeads}
use Rattle.chi_search.proofs.FirstAndLast.{first_leads, first_ready, words_lead}
use Rattle.chi_search.proofs.words.words_of.Goals as goal

pub words_from-requires-clause-ready : goal.words_from-requires-clause-ready
words_from-requires-clause-ready g c = first_ready c.args.ops.now c.args.words.now c.in_ok-first.first c.in_ok-first.ensures

pub returns-clause-words : goal.returns-clause-words
returns-clause-words g c =
    let ops = c.args.ops.now in
    let words = c.args.words.now in
    let first = c.in_ok-first.first in
    IfOk-weaker c.words_from.result (λ found. IfWords found (λ (each : List ℕ). (v : ℕ) → Contains each v ↔ SomeEnds ops first v))
    (λ found. IfWords found (λ (each : List ℕ). (v : ℕ) → Contains each v ↔ SomeLeads ops words v))
    (words_lead (SomeEnds ops first) (SomeLeads ops words) (first_leads ops words first c.in_ok-first.ensures)) c.words_from.ensures.words
