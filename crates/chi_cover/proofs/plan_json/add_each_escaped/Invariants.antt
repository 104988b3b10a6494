-- the text so far
use Rattle.std.proofs.Common.{◌≡◌, ◌++◌, flat_map, take}
use Rattle.chi_cover.specs.PlanJson.{escaped}
use Rattle.chi_cover.proofs.plan_json.add_each_escaped.Given as goal

abbrev pub invariant-loop-letter : goal.invariant-loop-letter
invariant-loop-letter l = l.to.items ≡ l.initial.to.items ++ flat_map escaped (take l.letter-index l.text)
