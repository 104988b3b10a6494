-- A look leaves the view.
use Rattle.crossbeam_utils.specs.Seq.{cell_view}
use Rattle.chi_lockstore.proofs.Line.{is_live, line_reads}
use Rattle.chi_lockstore.proofs.steps.look.Goals as goal

pub load-requires-clause-rule : goal.load-requires-clause-rule
load-requires-clause-rule g c = line_reads c.args.pass.now.id (cell_view c.args.pass.now) (is_live (cell_view c.args.pass.now) c.requires.seat)
