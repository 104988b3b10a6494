-- one line after the other
use Rattle.std.proofs.Common.{ℕ, List, ◌++◌, None, codes, decimal, append_assoc, append-nil}
use Rattle.chi_answer.specs.CutShort.{cut_short_line}
use Rattle.chi_answer.specs.Lines.{granule_line}
use Rattle.chi_text.proofs.Growing.{part_then}
use Rattle.chi_watch_text.specs.ReachTexts.{reach_text}
use Rattle.chi_watch_text.specs.Texts.{found_lines}
use Rattle.chi_watch_text.proofs.granules_told.add_found_lines.Goals as goal

pub returns : goal.returns
unfolding found_lines
returns c =
    let found = c.args.found.now in
    let reach : List ℕ = reach_text None found.reach in
    let cut : List ℕ = cut_short_line found.cut_short in
    let place : List ℕ = codes "  at line " ++ decimal found.line ++ codes "\n" in
    let result = c.add_parts.result in
    let last = c.add_parts.new.to.items in
    part_then result c.args.to.now.items c.add_granule.new.to.items last (granule_line found.granule) (reach ++ (cut ++ place)) c.in_ok-add_granule.ensures
    (part_then result c.add_granule.new.to.items c.add_reach.new.to.items last reach (cut ++ place) c.in_ok-add_reach.ensures
    (part_then result c.add_reach.new.to.items c.add_cut_short.new.to.items last cut place c.in_ok-add_cut_short.ensures (simp append_assoc (simp append-nil at c.add_parts.ensures))))
