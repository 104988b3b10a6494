-- the names that are left decide
use Rattle.std.proofs.Common.{◌≡◌, map}
use Rattle.serde_json.specs.View.{members_view}
use Rattle.chi_json.specs.Unknown.{unknown_in}
use Rattle.chi_json.proofs.UnknownNames.{unknown_among}
use Rattle.chi_json.proofs.unknown.unknown_member.Given as goal

abbrev pub invariant-loop-name : goal.invariant-loop-name
invariant-loop-name g l = unknown_among g.M.Named.name_of (map (λ known. known.now) l.known) l.name-iterator ≡ unknown_in g.M.Named.name_of (map (λ known. known.now) l.known) (members_view l.members.entries)
