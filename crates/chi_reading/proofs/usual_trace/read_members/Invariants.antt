-- the members so far are outlined, and stand before those that are left
use Rattle.std.proofs.Common.{◌≡◌, ℕ, ◌≤◌, length}
use Rattle.json.specs.Json.{members, value}
use Rattle.serde_json.specs.Data.{Members, no_members}
use Rattle.serde_json.specs.Read.{converted, of_members}
use Rattle.chi_reading.specs.Outline.{IsOutlineOf}
use Rattle.chi_reading.proofs.usual_trace.read_members.Given as goal

abbrev pub invariant-members : goal.invariant-members
invariant-members l = record {
  all : Members;
  n : ℕ;
  enough : length l.reader ≤ n;
  read : converted (λ ms. of_members ms no_members) (members (value 126) (length l.initial.reader) l.initial.reader) ≡ converted (λ ms. of_members ms all) (members (value 126) n l.reader);
  outline : IsOutlineOf all l.outline;
}

abbrev pub decreases-members : goal.decreases-members
decreases-members l = length l.reader
