-- Each request's operation is told after those of the requests before it.
use Rattle.std.proofs.Common.{[], All, None, Some, subst, sym, ◌∙◌}
use Rattle.std.specs.BTreeMap.{get}
use Rattle.std.specs.Ordering.{nat_cmp}
use Rattle.std.proofs.lemmas.List.Elements.{All-get_or}
use Rattle.chi_watch.specs.Changes.{HasOneMore}
use Rattle.chi_watch.specs.Endings.{AreToldTo, CanClose}
use Rattle.chi_search.specs.Looks.{Grew, for_verdict}
use Rattle.chi_search.proofs.Growing.{looked_none, some_after}
use Rattle.chi_watch.proofs.Opened.{all_close_on, told_one}
use Rattle.chi_watch.proofs.ToldAtTheEnd.{told_as, told_next, told_none}
use Rattle.chi_watch.proofs.ending.close_open.Goals as goal
use Rattle.chi_watch.proofs.ending.close_open.Goals.{in-Some+in_ok-close, in_default}

pub loop-request-init : goal.loop-request-init
loop-request-init g c = record {
  can = λ all. all;
  told = λ all h. told_none (get nat_cmp c.args.granules.now h);
  looked = looked_none (g.P.Progress.looked for_verdict) c.args.progress.now;
}

pub loop-request-preserved : goal.loop-request-preserved
loop-request-preserved g c =
    let first = get nat_cmp c.args.granules.now in
    let old = get nat_cmp c.loop-request.granules in
    let new = get nat_cmp c.match-operation.granules in
    let requests = c.args.requests.now in
    let p = c.request-item.result in
    elim c.match-operation.branch [
      | in-Some+in_ok-close w ↦
          let is = sym w.in-Some.is ∙ c.operation.ensures in
          let more : HasOneMore w.in-Some.op 0 old new = subst (λ m. HasOneMore w.in-Some.op 0 old (get nat_cmp m)) (sym w.granules-is) w.in_ok-close.ensures.told in
          let can = λ (all : All (CanClose first) requests). subst (CanClose old) (sym c.request-item.is)
          (All-get_or (CanClose old) requests c.loop-request.request-index p c.loop-request-test.true (c.loop-request.invariant.can all)) in
          record {
            can = λ all. all_close_on p w.in-Some.op old new (can all) is more requests (c.loop-request.invariant.can all);
            told = λ all h.
                told_next requests c.loop-request.request-index p h (first h) (old h) (new h) c.loop-request-test.true c.request-item.is (c.loop-request.invariant.told all h)
                (told_as p (Some w.in-Some.op) h (old h) (new h) is (told_one p w.in-Some.op old new (can all) is more h));
            looked = some_after (g.P.Progress.looked for_verdict) c.args.progress.now c.loop-request.progress c.match-operation.progress c.loop-request.invariant.looked
                (subst (Grew (g.P.Progress.looked for_verdict) c.loop-request.progress) (sym w.progress-is) w.in_ok-close.ensures.looked);
          }
      | in_default w ↦ record {
        can = λ all. subst (λ m. All (CanClose (get nat_cmp m)) requests) (sym w.granules-is) (c.loop-request.invariant.can all);
        told = λ all h.
            told_next requests c.loop-request.request-index p h (first h) (old h) (new h) c.loop-request-test.true c.request-item.is (c.loop-request.invariant.told all h)
            (told_as p None h (old h) (new h) (sym w.in_default.is ∙ c.operation.ensures)
            (subst (λ m. AreToldTo [] (old h) (get nat_cmp m h)) (sym w.granules-is) (told_none (old h))));
        looked = subst (Grew (g.P.Progress.looked for_verdict) c.args.progress.now) (sym w.progress-is) c.loop-request.invariant.looked;
      }
    ]
