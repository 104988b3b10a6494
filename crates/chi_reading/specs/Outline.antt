-- the object of a trace, of which the requests are not kept
use Rattle.std.specs.Prelude.{◌≡◌, ◌≢◌, ℕ, List, [], ◌∷◌, None, Some, Ok, MatchOption}
use Rattle.serde_json.specs.Data.{Items, Members, array}
use Rattle.serde_json.specs.Find.{get_member}
use Rattle.serde_json.specs.View.{members_view}
use Rattle.chi_json.specs.Unknown.{unknown_in}
use Rattle.chi_reading.specs.declared.member.Member.TheVariants as member
use Rattle.chi_reading.specs.declared.usual_trace.Outline.{Outline}
use Rattle.chi_reading.specs.Member.{member_name, trace_members}
use Rattle.chi_reading.specs.Requests.{all_completed}

-- An outline has each member of the object but `requests`, and of these, where the object has them, what came of the requests. The
-- object has only members of a trace.
pub record IsOutlineOf (all : Members) (o : Outline) : Type 0 where
  pub others : (name : List ℕ) → name ≢ member_name member.Requests → get_member name all ≡ get_member name (members_view o.members.entries)
  pub requests : MatchOption o.requests (get_member (member_name member.Requests) all ≡ None)
      (λ listed. (ds : Items) × (get_member (member_name member.Requests) all ≡ Some (array ds)) × (all_completed listed.region ds ≡ Ok listed.found))
  pub known : unknown_in member_name (trace_members ∷ []) all ≡ None
