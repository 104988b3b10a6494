-- the text so far
use Rattle.std.proofs.Common.{◌≡◌, ◌++◌, flat_map, take}
use Rattle.chi_cover.specs.Json.{further, number_json}
use Rattle.chi_cover.proofs.added_json.add_further_numbers.Given as goal

abbrev pub invariant-loop-number : goal.invariant-loop-number
invariant-loop-number l = l.to.items ≡ l.initial.to.items ++ flat_map (further number_json) (take l.number-index l.numbers)
