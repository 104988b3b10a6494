-- what the writer took so far
use Rattle.std.proofs.Common.{◌-◌, ◌≤◌, length, take}
use Rattle.std.specs.Io.KnownBytes.{Appends}
use Rattle.chi_script.proofs.device.write_bytes.Given as goal

abbrev pub invariant-writing : goal.invariant-writing
invariant-writing g l = record {
  within : l.at ≤ length l.bytes;
  taken : Appends (g.W.Write.contents l.initial.to) (g.W.Write.contents l.to) (take l.at l.bytes);
}

abbrev pub decreases-writing : goal.decreases-writing
decreases-writing g l = length l.bytes - l.at
