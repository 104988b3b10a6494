-- one address more
use Rattle.chi_answer.specs.BesideLine.{address_word}
use Rattle.chi_text.proofs.Growing.{part_more}
use Rattle.chi_answer.proofs.beside_line.add_each.Goals as goal

pub loop-granule-preserved : goal.loop-granule-preserved
loop-granule-preserved c =
    part_more address_word c.args.to.now.items c.args.beside.now c.loop-granule.granule-index 0 c.loop-granule.to.items _ c.loop-granule-test.true c.loop-granule.invariant c.in_ok-add_address.ensures
