-- what an event does to the outstanding requests
use Rattle.std.specs.Prelude.{◌≡◌, ℕ, ◌&&◌, if◌then◌else◌, true, List, [], ◌∷◌, ◌++◌, Option, Some, None, is_some, option_map, option_and_then}
use Rattle.std.specs.Result.{result_ok}
use Rattle.chi_fields.specs.Access.{Access}
use Rattle.chi_trace.specs.RequestFields.{access_of, as_operation}
use Rattle.chi_trace.specs.declared.operation.Operation.{Operation}
use Rattle.chi_events.specs.declared.event.EventKind.{EventKind}
use Rattle.chi_events.specs.declared.event.EventKind.TheVariants as event_kind
use Rattle.chi_events.specs.declared.event.Completion.{Completion}
use Rattle.chi_events.specs.declared.event.Packet.{Packet}
use Rattle.chi_events.specs.declared.event.Requested.{Requested}
use Rattle.chi_events.specs.declared.outstanding.Open.{Open}
use Rattle.chi_events.specs.Operations.{is_whole, refusal_of, with_packet}
use Rattle.chi_events.specs.Outstanding.{open_with}

-- the access of a request that comes with all the data that it needs
abbrev pub first_access_of : Requested → Option Access
first_access_of r = if is_whole r then result_ok (access_of None r.fields) else None

-- a request that was taken
abbrev pub opened : ℕ → Requested → Open
opened time r = record {
  id = r.id;
  start = time;
  fields = r.fields;
  is_whole = is_whole r;
  refusal = refusal_of (is_whole r) (access_of None r.fields);
  access = first_access_of r;
  completion = None;
}

-- the request with its data, or with its completion
abbrev pub with_data : Packet → Open → Open
with_data p o =
    record o { is_whole = true; refusal = refusal_of true (access_of None (with_packet o.fields p)); access = result_ok (access_of None (with_packet o.fields p)) }

abbrev pub with_reply : Completion → Open → Open
with_reply c o = record o { completion = Some c.reply }

-- the request, where it has not ended
abbrev pub still_open : Open → List Open
still_open o = if is_some o.access && is_some o.completion then [] else o ∷ []

-- its operation, where it ends at this time
abbrev pub ended_by : ℕ → Open → Option Operation
ended_by time o =
    option_and_then (λ access. option_map (λ reply. as_operation o.fields access o.start time reply) o.completion) o.access

-- The request with a number changes: what is left of it stays in its place, and its operation has ended, where it does.
pub record Changes (id : ℕ) (left : Open → List Open) (end : Open → Option Operation) (before : List Open) (ended : Option Operation) (after : List Open) : Type 0 where
  pub request : Open
  pub first : List Open
  pub rest : List Open
  pub was : before ≡ first ++ request ∷ rest
  pub found : open_with id before ≡ Some request
  pub number : request.id ≡ id
  pub is : after ≡ first ++ (left request ++ rest)
  pub ends : ended ≡ end request

-- what an event of this kind at this time does
abbrev pub Takes : EventKind → ℕ → List Open → Option Operation → List Open → Type 0
Takes (event_kind.Request r) time before ended after = (ended ≡ None) × (after ≡ before ++ opened time r ∷ [])
Takes (event_kind.Data p) time before ended after = Changes p.id (λ o. still_open (with_data p o)) (λ o. ended_by time (with_data p o)) before ended after
Takes (event_kind.Reply c) time before ended after = Changes c.id (λ o. still_open (with_reply c o)) (λ o. ended_by time (with_reply c o)) before ended after
Takes (event_kind.Dropped id) time before ended after = Changes id (λ o. []) (λ o. None) before ended after
Takes (event_kind.Refused id reason) time before ended after = Changes id (λ o. []) (λ o. None) before ended after
Takes (event_kind.Word w) time before ended after = (ended ≡ None) × (after ≡ before)
Takes (event_kind.Final w) time before ended after = (ended ≡ None) × (after ≡ before)
Takes (event_kind.Unknown addr len) time before ended after = (ended ≡ None) × (after ≡ before)
Takes event_kind.End time before ended after = (ended ≡ None) × (after ≡ before)
