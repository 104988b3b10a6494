-- one line more
use Rattle.chi_answer.specs.Lines.{word_line}
use Rattle.chi_text.proofs.Growing.{part_more}
use Rattle.chi_answer.proofs.lines.add_each.Goals as goal

pub loop-word-preserved : goal.loop-word-preserved
loop-word-preserved c =
    part_more word_line c.args.to.now.items c.args.words.now c.loop-word.word-index 0 c.loop-word.to.items _ c.loop-word-test.true c.loop-word.invariant c.in_ok-add_word.ensures
