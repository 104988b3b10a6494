-- the lines so far
use Rattle.std.proofs.Common.{◌≡◌, ◌++◌, flat_map, take}
use Rattle.chi_answer.specs.Lines.{word_line}
use Rattle.chi_answer.proofs.lines.add_each.Given as goal

abbrev pub invariant-loop-word : goal.invariant-loop-word
invariant-loop-word l = l.to.items ≡ l.initial.to.items ++ flat_map word_line (take l.word-index l.words)
