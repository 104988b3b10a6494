-- one part more
use Rattle.std.proofs.Common.{◌++◌, ap, ◌∙◌}
use Rattle.chi_text.specs.Part.{part_text}
use Rattle.chi_text.proofs.Growing.{part_more}
use Rattle.chi_text.proofs.part.add_parts.Goals as goal

pub loop-part-preserved : goal.loop-part-preserved
loop-part-preserved c =
    part_more part_text c.args.to.now.items c.args.parts.now c.loop-part.part-index _ c.loop-part.to.items _ c.loop-part-test.true c.loop-part.invariant
    (c.in_ok-extend_from_slice.ensures.items ∙ ap (λ l. c.loop-part.to.items ++ l) c.text.ensures)
