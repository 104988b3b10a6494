-- what events and one more tell, by what the one does
use Rattle.std.proofs.Common.{◌≡◌, ℕ, ◌≤◌, true, List, [], ◌∷◌, ◌++◌, Option, Some, None, option_to_list, append-nil, refl, sym, ap, subst, ◌∙◌}
use Rattle.chi_fields.specs.declared.refusal.Refusal.{Refusal}
use Rattle.chi_trace.specs.declared.operation.Operation.{Operation}
use Rattle.chi_events.specs.declared.event.Completion.{Completion}
use Rattle.chi_events.specs.declared.event.Event.{Event}
use Rattle.chi_events.specs.declared.event.EventKind.{EventKind}
use Rattle.chi_events.specs.declared.event.EventKind.TheVariants as event_kind
use Rattle.chi_events.specs.declared.event.Packet.{Packet}
use Rattle.chi_events.specs.declared.outstanding.Open.{Open}
use Rattle.chi_events.specs.Operations.{is_outstanding}
use Rattle.chi_events.specs.Outstanding.{IsAccepted, IsEvent, OutstandingValue, Tells, data_fault, kind_fault, open_of, open_with, reply_fault, request_fault}
use Rattle.chi_events.specs.EventEffects.{Changes, Takes, ended_by, still_open, with_data, with_reply}
use Rattle.chi_events.specs.RequestEvents.{RequestEvents, later_of}
use Rattle.chi_events.proofs.Extended.{IsAbout, with_event}
use Rattle.chi_events.proofs.Later.{IsBy, Leaves}
use Rattle.chi_events.proofs.Steps.{data_leaves, drop_leaves, reply_leaves}
use Rattle.chi_events.proofs.Taken.{changed, passed, started}

-- what an event of a kind is about
module _ (time : ℕ) where
  pub data_about : (p : Packet) → IsAbout p.id (record { time = time; kind = event_kind.Data p })
  unfolding later_of
  data_about p = record { no_request = refl; about = λ other. refl }

  pub reply_about : (c : Completion) → IsAbout c.id (record { time = time; kind = event_kind.Reply c })
  unfolding later_of
  reply_about c = record { no_request = refl; about = λ other. refl }

  pub drop_about : (id : ℕ) → IsAbout id (record { time = time; kind = event_kind.Dropped id })
  unfolding later_of
  drop_about id = record { no_request = refl; about = λ other. refl }

  pub refused_about : (id : ℕ) (reason : Option Refusal) → IsAbout id (record { time = time; kind = event_kind.Refused id reason })
  unfolding later_of
  refused_about id reason = record { no_request = refl; about = λ other. refl }

-- a request that can be taken has a number of its own
free : (o : Option Open) → request_fault o ≡ None → o ≡ None
free None none = refl
free (Some o) none = cc

module _ (events : List Event) (ended : List Operation) (o : OutstandingValue) (time : ℕ) (tells : Tells events ended o) (later : o.time ≤ time) where
  -- the events and one more of a kind
  abbrev Tell : EventKind → Option Operation → List Open → Type 0
  Tell kind op after = Tells (events ++ record { time = time; kind = kind } ∷ []) (ended ++ option_to_list op) (record { requests = after; time = time })

  tell_none : (kind : EventKind) (op : Option Operation) (after requests : List Open) → op ≡ None → after ≡ requests
      → Tells (events ++ record { time = time; kind = kind } ∷ []) ended (record { requests = requests; time = time }) → Tell kind op after
  tell_none kind op after requests none is tells =
      subst (λ (op : Option Operation). Tell kind op after) (sym none)
      (subst (λ (all : List Operation). Tells (events ++ record { time = time; kind = kind } ∷ []) all (record { requests = after; time = time })) (sym (append-nil ended))
      (subst (λ (l : List Open). Tells (events ++ record { time = time; kind = kind } ∷ []) ended (record { requests = l; time = time })) (sym is) tells))

  tell_change : (kind : EventKind) (id : ℕ) (left : Open → List Open) (end : Open → Option Operation) (op : Option Operation) (after : List Open)
      → Changes id left end o.requests op after → IsAbout id (record { time = time; kind = kind })
      → ((t : RequestEvents) → IsBy time t → IsAccepted t → is_outstanding t ≡ true → kind_fault o.requests kind ≡ None → open_with id o.requests ≡ Some (open_of t)
      → Leaves (with_event (record { time = time; kind = kind }) t) (left (open_of t)) (end (open_of t)) × IsAccepted (with_event (record { time = time; kind = kind }) t))
      → IsEvent (record { time = time; kind = kind }) → kind_fault o.requests kind ≡ None → Tell kind op after
  tell_change kind id left end op after k about step is_event fault =
      let e : Event = record { time = time; kind = kind } in
      subst (λ (op : Option Operation). Tell kind op after) (sym k.ends)
      (subst (Tell kind (end k.request)) (sym k.is)
      (changed events ended o e k.first k.request k.rest (left k.request) (end k.request) tells k.was (subst (λ n. IsAbout n e) (sym k.number) about) later is_event
      (λ t by accepted outstanding same. subst (λ (x : Open). Leaves (with_event e t) (left x) (end x) × IsAccepted (with_event e t)) same
      (step t by accepted outstanding fault (k.found ∙ ap Some (sym same))))))

  pub tells_more : (kind : EventKind) (op : Option Operation) (after : List Open) → IsEvent (record { time = time; kind = kind }) → kind_fault o.requests kind ≡ None
      → Takes kind time o.requests op after → Tell kind op after
  unfolding later_of
  tells_more (event_kind.Request r) op after is_event fault takes =
      tell_none (event_kind.Request r) op after _ takes.0 takes.1 (started events ended o time r tells later is_event (free (open_with r.id o.requests) fault))
  tells_more (event_kind.Data p) op after is_event fault takes =
      tell_change (event_kind.Data p) p.id (λ o. still_open (with_data p o)) (λ o. ended_by time (with_data p o)) op after takes (data_about time p)
      (λ t by accepted outstanding fault found. data_leaves time t by accepted outstanding p (ap (data_fault p) (sym found) ∙ fault)) is_event fault
  tells_more (event_kind.Reply c) op after is_event fault takes =
      tell_change (event_kind.Reply c) c.id (λ o. still_open (with_reply c o)) (λ o. ended_by time (with_reply c o)) op after takes (reply_about time c)
      (λ t by accepted outstanding fault found. reply_leaves time t by accepted outstanding c (ap (reply_fault c) (sym found) ∙ fault)) is_event fault
  tells_more (event_kind.Dropped id) op after is_event fault takes =
      tell_change (event_kind.Dropped id) id (λ o. []) (λ o. None) op after takes (drop_about time id)
      (λ t by accepted outstanding fault found. drop_leaves time t by accepted outstanding (record { time = time; kind = event_kind.Dropped id }) refl refl refl) is_event fault
  tells_more (event_kind.Refused id reason) op after is_event fault takes =
      tell_change (event_kind.Refused id reason) id (λ o. []) (λ o. None) op after takes (refused_about time id reason)
      (λ t by accepted outstanding fault found. drop_leaves time t by accepted outstanding (record { time = time; kind = event_kind.Refused id reason }) refl refl refl) is_event fault
  tells_more (event_kind.Word w) op after is_event fault takes =
      tell_none (event_kind.Word w) op after o.requests takes.0 takes.1 (passed events ended o (record { time = time; kind = event_kind.Word w }) tells later is_event refl (λ id. refl))
  tells_more (event_kind.Final w) op after is_event fault takes =
      tell_none (event_kind.Final w) op after o.requests takes.0 takes.1 (passed events ended o (record { time = time; kind = event_kind.Final w }) tells later is_event refl (λ id. refl))
  tells_more (event_kind.Unknown addr len) op after is_event fault takes =
      tell_none (event_kind.Unknown addr len) op after o.requests takes.0 takes.1
      (passed events ended o (record { time = time; kind = event_kind.Unknown addr len }) tells later is_event refl (λ id. refl))
  tells_more event_kind.End op after is_event fault takes =
      tell_none event_kind.End op after o.requests takes.0 takes.1 (passed events ended o (record { time = time; kind = event_kind.End }) tells later is_event refl (λ id. refl))
