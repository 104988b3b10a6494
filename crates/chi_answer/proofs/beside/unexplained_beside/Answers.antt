-- one granule of the line more, and then all are told
use Rattle.std.proofs.Common.{◌≡◌, ◌*◌, ◌/◌, refl, subst, arith}
use Rattle.chi_search.proofs.Looking.{none_more, spent_after}
use Rattle.chi_answer.proofs.LinePlaces.{IsUpTo, none_yet, one_more, whole_line}
use Rattle.chi_answer.proofs.beside.unexplained_beside.Goals as goal

pub loop-place-init : goal.loop-place-init
loop-place-init g c = record {
  up = none_yet c.args.recorded.now c.args.granule (c.args.granule / 8 * 8) refl c.new-beside.result.items (c.args.budget.now ≡ 0) c.new-beside.ensures.items;
  within = omega arith;
  spent = none_more g.P.Progress.looked c.args.progress.now _ (omega arith);
}

pub loop-place-preserved : goal.loop-place-preserved
loop-place-preserved g c =
    let before = c.loop-place.invariant in
    let then = c.in_ok-add_unexplained.ensures in
    record {
      up = one_more c.args.recorded.now c.args.granule (c.args.granule / 8 * 8) refl c.loop-place.place c.loop-place.beside.items c.add_unexplained.new.beside.items c.loop-place.budget c.add_unexplained.new.budget
          c.loop-place-test.true then.spends.0 before.up then.told then.grown;
      within = omega (arith, before.within, then.spends.0);
      spent = spent_after g.P.Progress.looked c.args.progress.now c.loop-place.progress c.add_unexplained.new.progress c.args.budget.now c.loop-place.budget c.add_unexplained.new.budget before.within then.spends.0
          before.spent then.spends.1;
    }

pub returns : goal.returns
returns g c =
    let all = c.loop-place.invariant in
    let r = c.args.recorded.now in
    let first = c.args.granule / 8 * 8 in
    let items = c.loop-place.beside.items in
    let last : c.loop-place.place ≡ 8 = omega (arith, c.loop-place-test.false, c.loop-place.auto.place-end) in
    record {
      beside = all.up.are;
      all = whole_line r c.args.granule first refl items (c.loop-place.budget ≡ 0) (subst (λ n. IsUpTo r c.args.granule first n items (c.loop-place.budget ≡ 0)) last all.up);
      spends = (all.within, all.spent);
    }
