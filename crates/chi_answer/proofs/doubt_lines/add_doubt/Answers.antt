-- one line after the other
use Rattle.std.proofs.Common.{List, ℕ, ◌++◌}
use Rattle.chi_answer.specs.DoubtLines.{found_line, most_open_line}
use Rattle.chi_answer.specs.Lines.{undecided_line}
use Rattle.chi_text.proofs.Growing.{part_then}
use Rattle.chi_answer.proofs.doubt_lines.add_doubt.Goals as goal

pub returns : goal.returns
returns c =
    let doubt = c.args.doubt.now in
    let explained : List ℕ = found_line doubt.explained in
    let most : List ℕ = most_open_line doubt.most_open in
    part_then c.add_most_open.result c.args.to.now.items c.add_undecided.new.to.items c.add_most_open.new.to.items (undecided_line doubt.granule doubt.states) (explained ++ most)
    c.in_ok-add_undecided.ensures
    (part_then c.add_most_open.result c.add_undecided.new.to.items c.add_found_time.new.to.items c.add_most_open.new.to.items explained most c.in_ok-add_found_time.ensures
    c.add_most_open.ensures)
