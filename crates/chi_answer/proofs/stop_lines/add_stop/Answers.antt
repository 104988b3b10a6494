-- one line after the other
use Rattle.std.proofs.Common.{List, ℕ, ◌++◌, flat_map}
use Rattle.chi_answer.specs.Lines.{blamed_line, explained_line, open_line}
use Rattle.chi_answer.specs.Stops.{found_words}
use Rattle.chi_text.proofs.Growing.{part_then}
use Rattle.chi_answer.proofs.stop_lines.add_stop.Goals as goal

pub returns : goal.returns
returns c =
    let s = c.args.stop.now in
    let words : List ℕ = found_words s.words in
    let open_ones : List ℕ = flat_map open_line s.overlapping.items in
    let explained : List ℕ = explained_line s.time c.args.count in
    part_then c.add_explained.result c.args.to.now.items c.add_blamed.new.to.items c.add_explained.new.to.items (blamed_line s.time s.op) (words ++ (open_ones ++ explained)) c.in_ok-add_blamed.ensures
    (part_then c.add_explained.result c.add_blamed.new.to.items c.add_found.new.to.items c.add_explained.new.to.items words (open_ones ++ explained) c.in_ok-add_found.ensures
    (part_then c.add_explained.result c.add_found.new.to.items c.add_overlapping.new.to.items c.add_explained.new.to.items open_ones explained (rw c.deref.ensures.value at c.in_ok-add_overlapping.ensures)
    c.add_explained.ensures))
