-- the request that an event is about, and the operation that ends by it
use Rattle.std.proofs.Common.{◌≡◌, ℕ, List, Option, Some, None, IfSome, refl, sym, subst}
use Rattle.chi_fields.specs.Access.{Access}
use Rattle.chi_lanes.specs.declared.reply.Reply.{Reply}
use Rattle.chi_trace.specs.declared.operation.Operation.{Operation}
use Rattle.chi_events.specs.declared.event.EventKind.{EventKind}
use Rattle.chi_events.specs.declared.event.EventKind.TheVariants as event_kind
use Rattle.chi_events.specs.declared.outstanding.Open.{Open}
use Rattle.chi_events.specs.Outstanding.{IsEndOfAbout, request_about}
use Rattle.chi_events.specs.EventEffects.{Takes, ended_by, with_data, with_reply}

module _ (before : List Open) (kind : EventKind) (request : Open) (is : request_about before kind ≡ Some request) where
  -- of a request as it is now, which kept its start and its requester
  ends : (time : ℕ) (now : Open) → now.start ≡ request.start → now.fields.src ≡ request.fields.src → IfSome (ended_by time now) (IsEndOfAbout before kind)
  ends time now start src = by_parts now.access now.completion
    where
      by_parts : (a : Option Access) (r : Option (Option Reply)) → IfSome (ended_by time (record now { access = a; completion = r })) (IsEndOfAbout before kind)
      by_parts None r = tt
      by_parts (Some a) None = tt
      by_parts (Some a) (Some r) = record { request = request; is = is; start = start; src = src }

  ended : (op : Option Operation) (time : ℕ) (now : Open) → op ≡ ended_by time now → now.start ≡ request.start → now.fields.src ≡ request.fields.src → IfSome op (IsEndOfAbout before kind)
  ended op time now same start src = subst (λ (o : Option Operation). IfSome o (IsEndOfAbout before kind)) (sym same) (ends time now start src)

none_ended : (before : List Open) (kind : EventKind) (op : Option Operation) → op ≡ None → IfSome op (IsEndOfAbout before kind)
none_ended before kind op none = subst (λ (o : Option Operation). IfSome o (IsEndOfAbout before kind)) (sym none) tt

pub ends_about : (time : ℕ) (before after : List Open) (op : Option Operation) (kind : EventKind) → Takes kind time before op after → IfSome op (IsEndOfAbout before kind)
ends_about time before after op (event_kind.Request r) takes = none_ended before (event_kind.Request r) op takes.0
ends_about time before after op (event_kind.Data p) takes = ended before (event_kind.Data p) takes.request takes.found op time (with_data p takes.request) takes.ends refl refl
ends_about time before after op (event_kind.Reply c) takes = ended before (event_kind.Reply c) takes.request takes.found op time (with_reply c takes.request) takes.ends refl refl
ends_about time before after op (event_kind.Dropped id) takes = none_ended before (event_kind.Dropped id) op takes.ends
ends_about time before after op (event_kind.Refused id reason) takes = none_ended before (event_kind.Refused id reason) op takes.ends
ends_about time before after op (event_kind.Word w) takes = none_ended before (event_kind.Word w) op takes.0
ends_about time before after op (event_kind.Final w) takes = none_ended before (event_kind.Final w) op takes.0
ends_about time before after op (event_kind.Unknown addr len) takes = none_ended before (event_kind.Unknown addr len) op takes.0
ends_about time before after op event_kind.End takes = none_ended before event_kind.End op takes.0
