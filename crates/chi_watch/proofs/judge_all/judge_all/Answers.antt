-- each granule is judged in turn
use Rattle.std.proofs.Common.{ℕ, Option, subst}
use Rattle.std.specs.BTreeMap.{get}
use Rattle.std.specs.Ordering.{nat_cmp}
use Rattle.chi_judge.specs.Standings.{IfExplained, IfUnexplained, IsExplainable as CanExplain, IsInexplicable as CanNotExplain}
use Rattle.chi_watch.proofs.Judging.{judged_all, judged_none, listed, said_here}
use Rattle.chi_watch.proofs.judge_all.judge_all.Goals as goal

pub loop-granule-init : goal.loop-granule-init
loop-granule-init g c =
    let gives = c.into_iter-granule-iterator.ensures.into_iter_gives in
    judged_none g.P.Progress.looked c.args.budget (get nat_cmp c.args.granules.now) c.args.granules.now.entries c.args.progress.now _ _ c.new.ensures.items c.new-2.ensures.items gives.0 gives.6

pub loop-granule-preserved : goal.loop-granule-preserved
loop-granule-preserved g c =
    listed g.P.Progress.looked c.args.budget (get nat_cmp c.args.granules.now) c.args.granules.now.entries c.args.progress.now c.loop-granule.progress c.loop-granule.listed c.loop-granule.granule-iterator
    c.next.new.self c.in-Some.granule.now c.in-Some.kept.now c.in-Some.ensures.steps c.loop-granule.invariant c.check.new.progress c.list.new.listed c.in_ok-standing.standing
    (subst (λ (word : Option ℕ). IfExplained c.in_ok-standing.standing (CanExplain c.in-Some.kept.now.judge word)) c.judged_word.ensures c.in_ok-standing.ensures.explained)
    (subst (λ (word : Option ℕ). IfUnexplained c.in_ok-standing.standing (CanNotExplain c.in-Some.kept.now.judge word)) c.judged_word.ensures c.in_ok-standing.ensures.unexplained)
    c.in_ok-standing.ensures.undecided c.in_ok-standing.ensures.goes_on c.in_ok-standing.ensures.looked c.in_ok-list.ensures

pub returns : goal.returns
returns g c =
    let are = c.loop-granule.invariant in
    record {
      each = said_here c.args.granules.now.entries _ _
          (judged_all g.P.Progress.looked c.args.budget (get nat_cmp c.args.granules.now) c.args.granules.now.entries c.args.progress.now c.loop-granule.progress c.loop-granule.listed c.loop-granule.granule-iterator
          c.in-None.ensures.steps.0 are);
      unexplained = are.none;
      undecided = are.spent.whole;
      together = are.spent.all;
      go_on = are.go_on;
      looked = are.spent.some;
    }
