-- one line after the other
use Rattle.std.proofs.Common.{ℕ, List, ◌++◌, codes, append-nil}
use Rattle.chi_answer.specs.CutShort.{cut_short_line}
use Rattle.chi_answer.specs.Lines.{granule_line}
use Rattle.chi_text.proofs.Growing.{part_then}
use Rattle.chi_watch_text.specs.ReachTexts.{reach_text}
use Rattle.chi_watch_text.specs.Texts.{at_end_lines}
use Rattle.chi_watch_text.proofs.granules_told.add_at_end_lines.Goals as goal

pub returns : goal.returns
unfolding at_end_lines
returns c =
    let it = c.args.it.now in
    let reach : List ℕ = reach_text it.final_word it.reach in
    let cut : List ℕ = cut_short_line it.cut_short in
    let place : List ℕ = codes "  at the end\n" in
    let result = c.add_parts.result in
    let last = c.add_parts.new.to.items in
    part_then result c.args.to.now.items c.add_granule.new.to.items last (granule_line it.granule) (reach ++ (cut ++ place)) c.in_ok-add_granule.ensures
    (part_then result c.add_granule.new.to.items c.add_reach.new.to.items last reach (cut ++ place) c.in_ok-add_reach.ensures
    (part_then result c.add_reach.new.to.items c.add_cut_short.new.to.items last cut place c.in_ok-add_cut_short.ensures (simp append-nil at c.add_parts.ensures)))
