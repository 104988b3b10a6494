-- Two passes become one, and the look after it shows what both had seen.
use Rattle.std.proofs.Common.{rules, ap}
use Rattle.crossbeam_utils.specs.Seq.{cell_view}
use Rattle.chi_rule.specs.declared.view.View.{View}
use Rattle.chi_lockstore.proofs.Line.{is_live, line_moves, line_settles, line_unites}
use Rattle.chi_lockstore.proofs.Room.{cell_fits}
use Rattle.chi_lockstore.proofs.steps.take_in.Goals as goal

pub cut-free-requires-clause-rule : goal.cut-free-requires-clause-rule
cut-free-requires-clause-rule g c = line_moves c.args.other.id (cell_view c.args.other) (ap (λ (z : View). z.live) c.requires.other_seat)

pub join_pass-requires : goal.join_pass-requires
join_pass-requires g c =
    let v : View = cell_view c.args.pass.now in
    (cell_fits g.row.A c.requires.small, (search rules, (search rules, line_unites c.args.pass.now.id v c.cut-free.result.id (cell_view c.cut-free.result) (is_live v c.requires.seat))))

pub load-requires-clause-rule : goal.load-requires-clause-rule
load-requires-clause-rule g c = line_settles c.join_pass.new.pass.id (cell_view c.join_pass.new.pass) (ap (λ (z : View). z.live) c.join_pass.ensures.1)
