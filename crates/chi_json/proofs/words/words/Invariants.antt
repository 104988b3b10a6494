-- the words so far are those of the chunks so far
use Rattle.std.proofs.Common.{◌≡◌}
use Rattle.std.specs.Prelude.{map, take}
use Rattle.chi_lanes.specs.Bytes.{little}
use Rattle.chi_json.proofs.words.words.Given as goal

abbrev pub invariant-loop-chunk : goal.invariant-loop-chunk
invariant-loop-chunk l = l.words.items ≡ map little (take l.chunk-index l.chunks)
