-- events that are ready in turn are accepted, or one is refused
use Rattle.std.specs.Prelude.{◌<◌, ◌^◌, ◌⊎◌, if◌then◌else◌}
use Rattle.std.proofs.Common.{◌≡◌, ℕ, ◌≤◌, List, [], ◌∷◌, ◌++◌, map, Option, Some, None, inl, inr, append-nil, append_assoc, option_to_list, refl, sym, ap, subst, ◌∙◌, arith}
use Rattle.std.proofs.lemmas.Bool.{le-ltb}
use Rattle.chi_fields.specs.declared.refusal.Refusal.TheVariants as refusal
use Rattle.chi_trace.specs.declared.operation.Operation.{Operation}
use Rattle.chi_events.specs.declared.event.Event.{Event}
use Rattle.chi_events.specs.declared.event.EventKind.{EventKind}
use Rattle.chi_events.specs.declared.fault.EventFault.{EventFault}
use Rattle.chi_events.specs.declared.fault.EventFault.TheVariants as fault
use Rattle.chi_events.specs.declared.outstanding.Open.{Open}
use Rattle.chi_events.specs.Outstanding.{Tells, kind_fault, open_with}
use Rattle.chi_events.proofs.OneMore.{tells_more}
use Rattle.chi_flits.specs.Accepted.{AreAccepted, AreRefused, ComeInTurn, HasFault}
use Rattle.chi_flits.proofs.Ready.{AreReady, IsBarred, Ready, at, effect, effects, number_in, ready_packet, ready_passes, ready_takes}

-- what events do to the outstanding requests, one after another, and that each of them can come
abbrev pub effects_of : List Event → List Open → List Open
effects_of [] l = l
effects_of (e ∷ events) l = effects_of events (effect e.time e.kind l)

abbrev pub ReadyInTurn : List Event → List Open → Type 0
ReadyInTurn [] l = Unit {0}
ReadyInTurn (e ∷ events) l = Ready e.kind (open_with (number_in e.kind) l) × ReadyInTurn events (effect e.time e.kind l)

-- from a time on, in the order of their times
abbrev pub InOrder : ℕ → List Event → Type 0
InOrder time [] = Unit {0}
InOrder time (e ∷ events) = (time ≤ e.time) × (e.time < 2 ^ 64) × InOrder e.time events

-- the same of the events of one time after others
pub ready_more : (events : List Event) (time : ℕ) (ks : List EventKind) (l : List Open) → ReadyInTurn events l → AreReady time ks (effects_of events l) → ReadyInTurn (events ++ map (at time) ks) l
ready_more [] time [] l ready more = tt
ready_more [] time (k ∷ ks) l ready more = (more.0, ready_more [] time ks (effect time k l) tt more.1)
ready_more (e ∷ events) time ks l ready more = (ready.0, ready_more events time ks (effect e.time e.kind l) ready.1 more)

pub effects_more : (events : List Event) (time : ℕ) (ks : List EventKind) (l : List Open) → effects_of (events ++ map (at time) ks) l ≡ effects time ks (effects_of events l)
effects_more [] time [] l = refl
effects_more [] time (k ∷ ks) l = effects_more [] time ks (effect time k l)
effects_more (e ∷ events) time ks l = effects_more events time ks (effect e.time e.kind l)

-- all are by this time
abbrev pub AreBy : ℕ → List Event → Type 0
AreBy time [] = Unit {0}
AreBy time (e ∷ events) = (e.time ≤ time) × AreBy time events

pub by_later : (events : List Event) (time later : ℕ) → time ≤ later → AreBy time events → AreBy later events
by_later [] time later le by = tt
by_later (e ∷ events) time later le by = let first = by.0 in (omega arith, by_later events time later le by.1)

pub by_more : (events : List Event) (time : ℕ) (ks : List EventKind) → AreBy time events → AreBy time (events ++ map (at time) ks)
by_more [] time [] by = tt
by_more [] time (k ∷ ks) by = (omega arith, by_more [] time ks tt)
by_more (e ∷ events) time ks by = (by.0, by_more events time ks by.1)

pub order_more : (from : ℕ) (events : List Event) (time : ℕ) (ks : List EventKind) → from ≤ time → time < 2 ^ 64 → AreBy time events → InOrder from events
    → InOrder from (events ++ map (at time) ks)
order_more from [] time [] le bound by order = tt
order_more from [] time (k ∷ ks) le bound by order = (le, bound, order_more time [] time ks (omega arith) bound tt tt)
order_more from (e ∷ events) time ks le bound by order = (order.0, order.1, order_more e.time events time ks by.0 bound by.1 order.2)

-- these requests are outstanding after the events
pub record Reaches (events : List Event) (requests : List Open) (time : ℕ) : Type 0 where
  pub ended : List Operation
  pub tells : Tells events ended (record { requests = requests; time = time })

-- an event has the fault of its kind
has_fault : (events : List Event) (requests : List Open) (before : ℕ) (e : Event) (f : Option EventFault) → Reaches events requests before → before ≤ e.time → kind_fault requests e.kind ≡ f
    → HasFault events e f
has_fault events requests before e f reached later is = record {
  ended = reached.ended;
  outstanding = record { requests = requests; time = before };
  tells = reached.tells;
  later = later;
  fault = λ past o tells in_time.
      let same : o.requests ≡ requests = tells.requests ∙ sym reached.tells.requests in
      ap (λ b. if b then Some fault.TimeFalls else kind_fault o.requests e.kind) (le-ltb e.time o.time in_time) ∙ (ap (λ (l : List Open). kind_fault l e.kind) same ∙ is);
}

-- one event more
reaches_more : (events : List Event) (requests : List Open) (before : ℕ) (e : Event) → Reaches events requests before → before ≤ e.time → e.time < 2 ^ 64
    → Ready e.kind (open_with (number_in e.kind) requests) → kind_fault requests e.kind ≡ None → Reaches (events ++ e ∷ []) (effect e.time e.kind requests) e.time
reaches_more events requests before e reached later bound ready none =
    let takes = ready_takes e.time e.kind requests ready in
    let has = ready_packet e.kind (open_with (number_in e.kind) requests) ready in
    record {
      ended = reached.ended ++ option_to_list takes.0;
      tells = tells_more events reached.ended (record { requests = requests; time = before }) e.time reached.tells later e.kind takes.0 (effect e.time e.kind requests)
          (record { time = bound; packet = has.0; word = has.1 }) none takes.1;
    }

-- what comes of events after others
pub record Done (events more : List Event) : Type 0 where
  pub in_turn : ComeInTurn events more
  pub requests : List Open
  pub time : ℕ
  pub reached : Reaches (events ++ more) requests time

pub record Stopped (events more : List Event) : Type 0 where
  pub first : List Event
  pub event : Event
  pub rest : List Event
  pub parts : more ≡ first ++ event ∷ rest
  pub done : Done events first
  pub later : done.time ≤ event.time
  pub barred : IsBarred done.requests event.kind

pub come_in_turn : (more events : List Event) (requests : List Open) (before : ℕ) → Reaches events requests before → InOrder before more → ReadyInTurn more requests
    → Done events more ⊎ Stopped events more
unfolding ComeInTurn
come_in_turn [] events requests before reached order ready =
    inl (record { in_turn = tt; requests = requests; time = before; reached = subst (λ (l : List Event). Reaches l requests before) (sym (append-nil events)) reached })
come_in_turn (e ∷ more) events requests before reached order ready =
    by_fault (ready_passes e.kind requests ready.0)
    (λ none. come_in_turn more (events ++ e ∷ []) (effect e.time e.kind requests) e.time (reaches_more events requests before e reached order.0 order.1 ready.0 none) order.2 ready.1)
  where
    by_rest : kind_fault requests e.kind ≡ None → Done (events ++ e ∷ []) more ⊎ Stopped (events ++ e ∷ []) more → Done events (e ∷ more) ⊎ Stopped events (e ∷ more)
    by_rest none (inl d) = inl (record {
      in_turn = (has_fault events requests before e None reached order.0 none, d.in_turn);
      requests = d.requests;
      time = d.time;
      reached = subst (λ (l : List Event). Reaches l d.requests d.time) (append_assoc events (e ∷ []) more) d.reached;
    })
    by_rest none (inr s) = inr (record {
      first = e ∷ s.first;
      event = s.event;
      rest = s.rest;
      parts = ap (λ (l : List Event). e ∷ l) s.parts;
      done = record {
        in_turn = (has_fault events requests before e None reached order.0 none, s.done.in_turn);
        requests = s.done.requests;
        time = s.done.time;
        reached = subst (λ (l : List Event). Reaches l s.done.requests s.done.time) (append_assoc events (e ∷ []) s.first) s.done.reached;
      };
      later = s.later;
      barred = s.barred;
    })

    by_fault : (kind_fault requests e.kind ≡ None) ⊎ IsBarred requests e.kind → (kind_fault requests e.kind ≡ None → Done (events ++ e ∷ []) more ⊎ Stopped (events ++ e ∷ []) more)
        → Done events (e ∷ more) ⊎ Stopped events (e ∷ more)
    by_fault (inl none) later = by_rest none (later none)
    by_fault (inr barred) later = inr (record {
      first = [];
      event = e;
      rest = more;
      parts = refl;
      done = record { in_turn = tt; requests = requests; time = before; reached = subst (λ (l : List Event). Reaches l requests before) (sym (append-nil events)) reached };
      later = order.0;
      barred = barred;
    })

abbrev accepted_of : (events : List Event) → Done [] events → AreAccepted events
accepted_of events d = record { in_turn = d.in_turn; ended = d.reached.ended; outstanding = record { requests = d.requests; time = d.time }; tells = d.reached.tells }

pub judged : (events : List Event) → Done [] events ⊎ Stopped [] events → AreAccepted events ⊎ AreRefused events
judged events (inl d) = inl (accepted_of events d)
judged events (inr s) = inr (record {
  first = s.first;
  event = s.event;
  rest = s.rest;
  parts = s.parts;
  accepted = accepted_of s.first s.done;
  request = s.barred.request;
  about = s.barred.about;
  atomic = s.barred.atomic;
  fault = has_fault s.first s.done.requests s.done.time s.event (Some (fault.Refused refusal.BadByteEnable)) s.done.reached s.later s.barred.fault;
})
