-- one word stands in order, and is the one that is told
use Rattle.std.proofs.Common.{◌<◌, subst, sym}
use Rattle.std.proofs.lemmas.List.Elements.{All-nil}
use Rattle.chi_trace.specs.declared.words.GranuleWord.{GranuleWord}
use Rattle.chi_trace.specs.Words.{AreInOrder}
use Rattle.chi_reading.proofs.alone.only.Goals as goal

pub unreachable-requires : goal.unreachable-requires
unfolding AreInOrder
unreachable-requires c =
    let word : GranuleWord = record { granule = c.args.granule; word = c.in-Some.word } in
    c.new.ensures.none c.in-None.is (subst AreInOrder (sym c.in_ok-push.ensures.items) (rw c.new-own.ensures.items (All-nil (λ (later : GranuleWord). word.granule < later.granule), tt)))
