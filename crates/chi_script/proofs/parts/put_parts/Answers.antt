-- each part is one step of the loop
use Rattle.std.proofs.Common.{drop, ◌+◌}
use Rattle.std.proofs.lemmas.List.{at_drop_more, at_drop_all}
use Rattle.std.specs.List.{flat_map}
use Rattle.chi_text.specs.Part.{part_text}
use Rattle.chi_script.proofs.WriterBytesLemmas.{leads_start, leads_next, leads_cut, leads_end}
use Rattle.chi_script.proofs.parts.put_parts.Goals as goal

pub parts-init : goal.parts-init
parts-init g c = leads_start _ _ _

pub returns-in_err-put_bytes : goal.returns-in_err-put_bytes
returns-in_err-put_bytes g c =
    leads_cut _ _ _ _ _ _ _ _ (flat_map part_text (drop (c.parts.part-index + 1) c.args.parts.now)) _ _
    c.from_residual.ensures.0 c.parts.invariant (rw c.text.ensures at c.in_err-put_bytes.ensures)
    (at_drop_more (flat_map part_text) c.args.parts.now c.parts.part-index _ c.parts-test.true)

pub parts-preserved : goal.parts-preserved
parts-preserved g c =
    leads_next _ _ _ _ _ _ _ _ _ _ c.parts.invariant (rw c.text.ensures at c.in_ok-put_bytes.ensures)
    (at_drop_more (flat_map part_text) c.args.parts.now c.parts.part-index _ c.parts-test.true)

pub returns : goal.returns
returns g c = leads_end _ _ _ _ _ _ c.parts.invariant (at_drop_all (flat_map part_text) _ _ c.parts-test.false)
