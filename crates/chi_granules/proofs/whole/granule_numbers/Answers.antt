-- the numbers of the operations' granules and of all words', sorted, and each once
use Rattle.std.proofs.Common.{◌≡◌, ◌++◌, List, ℕ, eqb, map, sym, ap, ap₂, ◌∙◌, arith, append-nil}
use Rattle.std.proofs.lemmas.List.{take_all}
use Rattle.std.proofs.lemmas.List.Filters.{dedup_is}
use Rattle.chi_trace.specs.Granules.{granule_of}
use Rattle.chi_trace.specs.declared.words.GranuleWord.{GranuleWord}
use Rattle.chi_granules.proofs.Numbers.{are_granules, granule_told, numbers_more}
use Rattle.chi_granules.proofs.whole.granule_numbers.Goals as goal

pub loop-told-init : goal.loop-told-init
loop-told-init c = sym (append-nil _)

pub loop-told-preserved : goal.loop-told-preserved
loop-told-preserved c =
    numbers_more c.loop-op.granule_numbers.items c.loop-told.granule_numbers.items c.push-in-loop-told.new.self.items c.as_slice-told-items.result.now c.loop-told.told-index _
    c.loop-told-test.true c.loop-told.invariant c.in_ok-push-2.ensures.items

pub returns : goal.returns
returns c =
    let r = c.args.recorded.now in
    let granule_numbers = c.loop-told.granule_numbers.items in
    let ops = c.operations-op-items.result.now in
    let words = c.as_slice-told-items.result.now in
    let told : ops ≡ r.trace.operations = rw c.trace.ensures at c.operations-op-items.ensures.operations in
    let first : c.loop-op.granule_numbers.items ≡ map granule_of r.trace.operations =
    c.loop-op.invariant ∙ ap (map granule_of) (take_all c.loop-op.op-index ops (omega arith) ∙ told) in
    let second : words ≡ r.final_words = c.as_slice-told-items.ensures.words ∙ c.final_words.ensures in
    let all : granule_numbers ≡ c.loop-op.granule_numbers.items ++ map granule_told words =
    c.loop-told.invariant ∙ ap (λ l. c.loop-op.granule_numbers.items ++ map granule_told l) (take_all c.loop-told.told-index words (omega arith)) in
    are_granules r granule_numbers c.sort.new.self.items c.dedup.new.self.items
    (all ∙ ap₂ (λ (xs : List ℕ) (ys : List GranuleWord). xs ++ map granule_told ys) first second) c.in_ok-sort.ensures.permutation c.in_ok-sort.ensures.sorted
    (dedup_is eqb c.sort.new.self.items c.dedup.new.self.items c.dedup.ensures.filtered)
