-- the text so far
use Rattle.std.proofs.Common.{◌≡◌, ◌++◌, flat_map, take}
use Rattle.chi_cover.specs.Counts.{count_in}
use Rattle.chi_cover.specs.Json.{bin_json, further}
use Rattle.chi_cover.proofs.json.add_further_bins.Given as goal

abbrev pub invariant-loop-bin : goal.invariant-loop-bin
invariant-loop-bin l = l.to.items ≡ l.initial.to.items ++ flat_map (further (bin_json l.plan (count_in l.covered))) (take l.bin-index l.bins)
