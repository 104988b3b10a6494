-- one granule after the other is judged
use Rattle.std.proofs.Common.{◌-◌, All, sym, subst, arith}
use Rattle.std.proofs.lemmas.Grind.{common_steps}
use Rattle.std.proofs.lemmas.List.Elements.{All-push}
use Rattle.chi_search.proofs.Looking.{some_after}
use Rattle.chi_granules.specs.Judged.{IsJudged}
use Rattle.chi_granules.proofs.Undecided.{one_more}
use Rattle.chi_granules.proofs.listing.judged_granules.Goals as goal

pub loop-number-preserved : goal.loop-number-preserved
loop-number-preserved g c =
    let looked = g.P.Progress.looked in
    let old = c.args.progress.now in
    let middle = c.loop-number.progress in
    let new = c.judged_in.new.progress in
    let left = c.judged_in.new.budget in
    let before = c.loop-number.drawn.items in
    let drawn = c.in_ok-judged.judged in
    record {
      judged = subst (All (IsJudged c.args.recorded.now)) (sym c.in_ok-push.ensures.items)
          (All-push (IsJudged c.args.recorded.now) before drawn c.loop-number.invariant.judged c.in_ok-judged.ensures.judged);
      granules = grind (arith, common_steps);
      undecided = one_more looked old middle new c.args.budget left before c.push.new.self.items drawn c.in_ok-push.ensures.items c.loop-number.invariant.looked
          c.loop-number.invariant.undecided c.in_ok-judged.ensures.spends c.in_ok-judged.ensures.undecided;
      looked = some_after looked old middle new c.loop-number.invariant.looked (c.args.budget - left, c.in_ok-judged.ensures.spends.1);
    }
