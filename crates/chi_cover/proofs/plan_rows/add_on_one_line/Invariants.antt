-- the text so far
use Rattle.std.proofs.Common.{◌≡◌, ◌++◌, take}
use Rattle.chi_cover.specs.PlanTexts.{on_one_line}
use Rattle.chi_cover.proofs.plan_rows.add_on_one_line.Given as goal

abbrev pub invariant-loop-letter : goal.invariant-loop-letter
invariant-loop-letter l = l.to.items ≡ l.initial.to.items ++ on_one_line (take l.letter-index l.text)
