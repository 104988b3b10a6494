-- the points that are added
use Rattle.std.proofs.Common.{◌++◌, append-nil, ap, sym, ◌∙◌, arith}
use Rattle.std.proofs.lemmas.List.{drop_all}
use Rattle.chi_verdict.proofs.Added.{are_points, order_of-timed, rises, timed}
use Rattle.chi_verdict.proofs.merge_orders.add_points.Goals as goal

pub returns : goal.returns
returns c = (
  timed c.args.ops.now 0 c.args.order.now,
  sym (append-nil c.loop-place.points.items)
      ∙ (ap (λ rest. c.loop-place.points.items ++ timed c.args.ops.now c.loop-place.time rest) (sym (drop_all c.loop-place.place-index c.args.order.now c.loop-place-test.false))
      ∙ c.loop-place.invariant),
  order_of-timed c.args.ops.now 0 c.args.order.now,
  are_points c.args.ops.now 0 c.args.order.now c.requires.traced c.requires.places c.requires.times (λ k d under. omega arith),
  rises c.args.ops.now 0 c.args.order.now,
)
