-- the word that the search finds is the one that is told
use Rattle.std.proofs.Common.{rules, sym, Ok, Err}
use Rattle.std.proofs.lemmas.List.Sorted.{answers_always}
use Rattle.chi_trace.specs.Words.{AreInOrder}
use Rattle.chi_trace.proofs.InOrder.{searched}
use Rattle.chi_trace.proofs.words.GranuleWords.get.Goals as goal

pub returns-in-Ok : goal.returns-in-Ok
returns-in-Ok c =
    let by_granule = c.in-Ok.ensures.position (λ w. w.granule) (answers_always _ _ _ (λ f a r g called. search rules)) in
    let order : AreInOrder c.deref.result.now = rw c.deref.ensures.value c.self.invariant.0 in
    let found = searched c.deref.result.now order c.args.granule (Ok c.in-Ok.place) c.in-Ok.ensures.bound by_granule c.index.result.now in
    rw (← c.self.view_is, ← c.deref.ensures.value) (cc found)

pub returns-in-Err : goal.returns-in-Err
returns-in-Err c =
    let by_granule = c.in-Err.ensures.position (λ w. w.granule) (answers_always _ _ _ (λ f a r g called. search rules)) in
    let order : AreInOrder c.deref.result.now = rw c.deref.ensures.value c.self.invariant.0 in
    rw (← c.self.view_is, ← c.deref.ensures.value) (sym (searched c.deref.result.now order c.args.granule (Err c.in-Err.field-0) c.in-Err.ensures.bound by_granule))
