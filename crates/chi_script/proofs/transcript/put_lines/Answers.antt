-- each line is one step of the loop
use Rattle.std.proofs.Common.{drop, ◌+◌}
use Rattle.std.proofs.lemmas.List.{at_drop_more, at_drop_all}
use Rattle.std.specs.List.{flat_map}
use Rattle.chi_script.specs.Transcript.{line_text}
use Rattle.chi_script.proofs.WriterBytesLemmas.{leads_start, leads_next, leads_cut, leads_end}
use Rattle.chi_script.proofs.transcript.put_lines.Goals as goal

pub lines-init : goal.lines-init
lines-init g c = leads_start _ _ _

pub returns-in_err-put_line : goal.returns-in_err-put_line
returns-in_err-put_line g c =
    leads_cut _ _ _ _ _ _ _ _ (flat_map line_text (drop (c.lines.line-index + 1) c.args.lines.now)) _ _
    c.from_residual.ensures.0 c.lines.invariant c.in_err-put_line.ensures
    (at_drop_more (flat_map line_text) c.args.lines.now c.lines.line-index _ c.lines-test.true)

pub lines-preserved : goal.lines-preserved
lines-preserved g c =
    leads_next _ _ _ _ _ _ _ _ _ _ c.lines.invariant c.in_ok-put_line.ensures
    (at_drop_more (flat_map line_text) c.args.lines.now c.lines.line-index _ c.lines-test.true)

pub returns : goal.returns
returns g c = leads_end _ _ _ _ _ _ c.lines.invariant (at_drop_all (flat_map line_text) _ _ c.lines-test.false)
