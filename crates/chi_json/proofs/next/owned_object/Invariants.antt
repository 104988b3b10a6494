-- the members so far
use Rattle.std.proofs.Common.{◌≡◌, take}
use Rattle.serde_json.specs.Data.{no_members}
use Rattle.serde_json.specs.View.{members_view}
use Rattle.chi_json.specs.Flat.{put_all}
use Rattle.chi_json.proofs.next.owned_object.Given as goal

abbrev pub invariant-members : goal.invariant-members
invariant-members l = members_view l.members.entries ≡ put_all (take l.member-index l.object.members.items) no_members
