-- one more word, of a later granule
use Rattle.std.proofs.Common.{refl, get_or, arith}
use Rattle.chi_trace.specs.declared.words.GranuleWord.{GranuleWord}
use Rattle.chi_trace.specs.Words.{AreInOrder, find_word}
use Rattle.chi_trace.proofs.Entries.{same_key, told_more}
use Rattle.chi_trace.proofs.execution.by_granule.Goals as goal

pub loop-told-init : goal.loop-told-init
unfolding find_word
loop-told-init c g = rw c.new-map.ensures.empty refl

pub loop-told-preserved : goal.loop-told-preserved
loop-told-preserved c g =
    let items = c.as_slice-told-items.result.now in
    let order : AreInOrder items = rw c.as_slice-told-items.ensures.words c.as_slice-told-items.ensures.in_order in
    let item : GranuleWord = get_or items c.loop-told.told-index (record { granule = 0; word = 0 }) in
    let more = told_more items c.loop-told.told-index (record { granule = 0; word = 0 }) g order (omega arith) in
    cc (c.in_ok-insert.ensures.updates.0 g, same_key item.granule g, c.loop-told.invariant g, more)
