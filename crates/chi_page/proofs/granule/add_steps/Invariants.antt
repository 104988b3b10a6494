-- the operations so far, and the word that they leave
use Rattle.std.proofs.Common.{◌≡◌, ◌++◌, take}
use Rattle.chi_trace.specs.Granules.{last_word}
use Rattle.chi_page.specs.Granules.{step_at}
use Rattle.chi_page.specs.Listed.{comma_line, listed}
use Rattle.chi_page.proofs.granule.add_steps.Given as goal

abbrev pub invariant-loop-number : goal.invariant-loop-number
invariant-loop-number l = record {
  text : l.to.items ≡ l.initial.to.items ++ listed comma_line (step_at l.ops l.word l.order) l.number;
  word : l.before ≡ last_word l.ops l.word (take l.number l.order);
}
