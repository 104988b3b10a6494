-- the members so far are known
use Rattle.std.proofs.Common.{◌≡◌, map, None, take}
use Rattle.serde_json.specs.Data.{no_members}
use Rattle.chi_json.specs.Flat.{put_all}
use Rattle.chi_json.specs.Unknown.{unknown_in}
use Rattle.chi_json.proofs.flat.are_known.Given as goal

abbrev pub invariant-members : goal.invariant-members
invariant-members g l = unknown_in g.M.Named.name_of (map (λ list. list.now) l.known) (put_all (take l.member-index l.members) no_members) ≡ None
