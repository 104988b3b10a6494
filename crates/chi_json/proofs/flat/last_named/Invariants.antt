-- the members that are left have what all have
use Rattle.std.proofs.Common.{◌≡◌, ◌≤◌, length, take}
use Rattle.serde_json.specs.Data.{no_members}
use Rattle.serde_json.specs.Find.{get_member}
use Rattle.chi_json.specs.Flat.{put_all}
use Rattle.chi_json.proofs.flat.last_named.Given as goal

abbrev pub invariant-members : goal.invariant-members
invariant-members l = record {
  within : l.left ≤ length l.members;
  same : get_member l.name (put_all l.members no_members) ≡ get_member l.name (put_all (take l.left l.members) no_members);
}

abbrev pub decreases-members : goal.decreases-members
decreases-members l = l.left
