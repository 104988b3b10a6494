-- the places of the granule, and the words that their operations leave
use Rattle.std.proofs.Common.{◌≡◌, ℕ, ◌↔◌, List, [], ◌∷◌, Some, ap, ◌∙◌}
use Rattle.std.specs.List.{Contains}
use Rattle.std.proofs.lemmas.Result.{IfOk-weaker}
use Rattle.chi_trace.specs.AtPlaces.{at_places}
use Rattle.chi_trace.specs.Granules.{ExplainsGranule}
use Rattle.chi_search.specs.Found.{IfWords}
use Rattle.chi_search.specs.Layers.{SomeLeads}
use Rattle.chi_verdict.specs.Groups.{places_of}
use Rattle.chi_verdict.proofs.OneGranule.{inside, sorted, within}
use Rattle.chi_verdict.proofs.Told.{said, told_words}
use Rattle.chi_verdict.proofs.granule.words_left.Goals as goal

pub at_places-requires : goal.at_places-requires
at_places-requires g c = rw c.deref.ensures.value (inside c.args.ops.now c.args.granule c.in_ok-run.run'.items c.in_ok-run.ensures.each)

pub words_of-requires-clause-sorted : goal.words_of-requires-clause-sorted
words_of-requires-clause-sorted g c =
    rw (c.deref-2.ensures.value, c.in_ok-own.ensures, c.deref.ensures.value)
    (sorted c.args.ops.now c.args.granule c.in_ok-run.run'.items c.requires.traced c.in_ok-run.ensures)

pub words_of-requires-clause-within : goal.words_of-requires-clause-within
words_of-requires-clause-within g c =
    rw (c.deref-2.ensures.value, c.in_ok-own.ensures, c.deref.ensures.value)
    (within c.args.ops.now c.args.granule c.in_ok-run.run'.items c.requires.traced c.in_ok-run.ensures)

pub returns-clause-words : goal.returns-clause-words
returns-clause-words g c =
    let ops = c.args.ops.now in
    let run = c.in_ok-run.run'.items in
    let own : c.deref-2.result.now ≡ at_places ops (places_of run) =
    c.deref-2.ensures.value ∙ c.in_ok-own.ensures ∙ ap (λ x. at_places ops (places_of x)) c.deref.ensures.value in
    let Found = λ (v : ℕ). SomeLeads c.deref-2.result.now (c.args.word ∷ []) v in
    let Left = λ (v : ℕ). (order : List ℕ) × ExplainsGranule ops c.args.granule c.args.word (Some v) order in
    IfOk-weaker c.words_of.result (λ found. IfWords found (λ each. (v : ℕ) → Contains each v ↔ Found v)) (λ found. IfWords found (λ each. (v : ℕ) → Contains each v ↔ Left v))
    (λ found. said found Found Left
    (λ v. told_words c.places_explain.ensures ops c.deref-2.result.now c.args.granule run c.args.word v own c.in_ok-run.ensures.each))
    c.words_of.ensures.words
