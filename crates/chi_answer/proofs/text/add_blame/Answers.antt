-- the granule, and then where its operations stop being explained
use Rattle.chi_answer.specs.Lines.{granule_line}
use Rattle.chi_answer.specs.Stops.{stop_text}
use Rattle.chi_text.proofs.Growing.{part_then}
use Rattle.std.proofs.Common.{Some, vec_len}
use Rattle.chi_answer.proofs.text.add_blame.Goals as goal

pub returns : goal.returns
returns c =
    let blame = c.args.blame.now in
    part_then c.add_stop.result c.args.to.now.items c.add_granule.new.to.items c.add_stop.new.to.items (granule_line blame.granule) (stop_text (Some (vec_len blame.order)) blame.stop)
    c.in_ok-add_granule.ensures (rw c.len.ensures at c.add_stop.ensures)
