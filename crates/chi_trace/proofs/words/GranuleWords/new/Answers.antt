-- words of which each comes after the one before stand in order
use Rattle.std.proofs.Common.{◌≡◌, ◌-◌, ◌^◌, ◌<◌, ◌≤◌, take, get_or, arith}
use Rattle.std.proofs.lemmas.List.{take_all}
use Rattle.std.proofs.lemmas.List.Elements.{All-more, pair_read}
use Rattle.chi_trace.specs.declared.words.GranuleWord.{GranuleWord}
use Rattle.chi_trace.proofs.InOrder.{AreInOrder-far, AreInOrder-from_rising, AreRising-more}
use Rattle.chi_trace.proofs.words.GranuleWords.new.Goals as goal
use Rattle.chi_trace.proofs.words.GranuleWords.new.Goals.{else-place-gt0-via-then-place-gt0+else-index, else-place-gt0-via-else-place-gt0}

pub loop-place-preserved : goal.loop-place-preserved
loop-place-preserved c =
    let items = c.args.words.items in
    let place = c.loop-place.place in
    let next : 0 < place → (d : GranuleWord) → (get_or items (place - 1) d).granule < (get_or items place d).granule =
    λ above. elim c.else-place-gt0.branch [
      | else-place-gt0-via-then-place-gt0+else-index w ↦ pair_read items (λ before after. before.granule < after.granule) (place - 1) place _ _ (omega arith) (omega arith)
          w.index-then-place-gt0-2.ensures w.index-then-place-gt0.ensures (omega arith)
      | else-place-gt0-via-else-place-gt0 w ↦ absurd (omega arith)
    ] in (
      AreRising-more items place c.loop-place.invariant.0 next,
      All-more (λ w. w.word < 2 ^ 64) items place c.index.result.now (omega arith) c.loop-place.invariant.1 (rw (← c.index.ensures) (omega arith)),
    )

pub returns-then-index-clause-none : goal.returns-then-index-clause-none
returns-then-index-clause-none c none is =
    let items = c.args.words.items in
    let place = c.loop-place.place in
    let less = AreInOrder-far items is (place - 1) place c.index.result.now (omega arith) (omega arith) in
    let more = pair_read items (λ before after. after.granule ≤ before.granule) (place - 1) place _ _ (omega arith) (omega arith)
    c.index-then-place-gt0-2.ensures c.index-then-place-gt0.ensures c.if-index.true c.index.result.now in
    omega (arith, less, more)

pub invariant_of-result : goal.invariant_of-result
invariant_of-result c =
    let items = c.args.words.items in
    let all : take c.loop-place.place items ≡ items = take_all c.loop-place.place items (omega arith) in
    (AreInOrder-from_rising items (λ k d under. c.loop-place.invariant.0 k d (omega arith)), rw all at c.loop-place.invariant.1)
