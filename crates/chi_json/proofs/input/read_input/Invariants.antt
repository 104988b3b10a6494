-- What was read so far is what the reader has given.
use Rattle.std.proofs.Common.{◌+◌, ◌-◌, ◌≤◌, vec_len}
use Rattle.std.specs.Io.KnownBytes.{Consumes}
use Rattle.chi_json.proofs.input.read_input.Given as goal

abbrev pub invariant-filling : goal.invariant-filling
invariant-filling g l = record {
  within : vec_len l.input ≤ l.most + 1;
  taken : Consumes (g.R.Read.remaining l.initial.from) (g.R.Read.remaining l.from) l.input.items;
}

abbrev pub decreases-filling : goal.decreases-filling
decreases-filling g l = l.most + 1 - vec_len l.input
