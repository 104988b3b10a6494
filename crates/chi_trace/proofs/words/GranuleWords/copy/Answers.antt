-- the copy has the words that it was made from
use Rattle.std.proofs.Common.{◌≡◌, ◌∙◌}
use Rattle.std.proofs.lemmas.List.{take_all}
use Rattle.chi_trace.proofs.words.GranuleWords.copy.Goals as goal

pub invariant_of-result : goal.invariant_of-result
invariant_of-result c =
    let all : c.loop-told.words.items ≡ c.self.inside.words.items = c.loop-told.invariant ∙ (take_all c.loop-told.told-index c.deref-told-items.result.now c.loop-told-test.false ∙ c.deref-told-items.ensures.value) in
    rw all c.self.invariant
