-- one part after the other
use Rattle.std.proofs.Common.{ℕ, List, ◌++◌, codes, decimal, append_assoc, append-nil}
use Rattle.chi_text.proofs.Growing.{part_then}
use Rattle.chi_watch_text.specs.Texts.{fields_text, waiting_line, waits_text}
use Rattle.chi_watch_text.proofs.waiting_lines.add_waiting.Goals as goal

pub returns : goal.returns
unfolding waiting_line
returns c =
    let w = c.args.waiting.now in
    let place : List ℕ = codes "    line " ++ decimal w.fields.number ++ codes " since " ++ decimal w.since ++ codes ": " in
    let wanted : List ℕ = codes "waits for its " ++ waits_text w.waits_for ++ codes "\n" in
    part_then c.add_parts-2.result c.args.to.now.items c.add_parts.new.to.items c.add_parts-2.new.to.items place (fields_text w.fields ++ wanted) (simp append_assoc (simp append-nil at c.in_ok-add_parts.ensures))
    (part_then c.add_parts-2.result c.add_parts.new.to.items c.add_fields.new.to.items c.add_parts-2.new.to.items (fields_text w.fields) wanted c.in_ok-add_fields.ensures
    (simp append_assoc (simp (c.waits_name.ensures, append-nil) at c.add_parts-2.ensures)))
