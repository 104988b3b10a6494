-- what an event about a request leaves of it
use Rattle.std.specs.Prelude.{if◌then◌else◌, max, option_map, option_and_then, IfSome}
use Rattle.std.proofs.Common.{◌≡◌, ℕ, ◌≤◌, Bool, true, false, not, ◌||◌, ◌&&◌, List, [], ◌∷◌, Option, Some, None, is_some, refl, sym, ap, subst, ◌∙◌, arith}
use Rattle.std.specs.Result.{result_ok}
use Rattle.std.proofs.lemmas.Bool.{not-false, not-true, or_parts, or_right, true≢false}
use Rattle.std.proofs.Math.Bool.{or-false}
use Rattle.chi_fields.specs.Access.{Access}
use Rattle.chi_fields.specs.declared.refusal.Refusal.{Refusal}
use Rattle.chi_lanes.specs.declared.reply.Reply.{Reply}
use Rattle.chi_trace.specs.RequestFields.{access_of}
use Rattle.chi_trace.specs.declared.operation.Operation.{Operation}
use Rattle.chi_events.specs.declared.event.Completion.{Completion}
use Rattle.chi_events.specs.declared.event.Event.{Event}
use Rattle.chi_events.specs.declared.event.EventKind.TheVariants as event_kind
use Rattle.chi_events.specs.declared.event.Packet.{Packet}
use Rattle.chi_events.specs.declared.event.Requested.{Requested}
use Rattle.chi_events.specs.declared.outstanding.Open.{Open}
use Rattle.chi_events.specs.Operations.{AccessAt, DataAt, ReplyAt, access_told, data_at, data_told, decided_at, is_drop, is_dropped, is_outstanding, is_whole, refusal_of, refusal_told, refusal_with, reply_at, reply_told, with_packet}
use Rattle.chi_events.specs.Outstanding.{IsAccepted, data_fault, decided_fault, ended_fault, open_of, reply_fault}
use Rattle.chi_events.specs.EventEffects.{ended_by, opened, still_open, with_data, with_reply}
use Rattle.chi_events.specs.RequestEvents.{RequestEvents}
use Rattle.chi_events.proofs.Extended.{with_event}
use Rattle.chi_events.proofs.Later.{IsBy, Leaves, access_by, data_more, drop_more, dropped, or_else, or_none, reply_by, reply_more, settled, waiting}

-- where there is none
none_from : {X : Type 0} (o : Option X) → is_some o ≡ false → o ≡ None
none_from None is = refl
none_from (Some x) is = absurd (true≢false is)

none_mapped : {X Y : Type 0} (f : X → Y) (o : Option X) → is_some (option_map f o) ≡ false → o ≡ None
none_mapped f None is = refl
none_mapped f (Some x) is = absurd (true≢false is)

no_fault : {X : Type 0} (b : Bool) (x : X) (o : Option X) → (if b then Some x else o) ≡ None → (b ≡ false) × (o ≡ None)
no_fault true x o is = cc
no_fault false x o is = (refl, is)

-- a request whose completion has no fault is not refused
accepted_by : (refused : Option Refusal) (r : Option ReplyAt) → ended_fault refused (option_map (λ (r : ReplyAt). r.reply) r) ≡ None → is_some r ≡ true → refused ≡ None
accepted_by refused None none some = absurd (true≢false (sym some))
accepted_by None (Some r) none some = refl
accepted_by (Some reason) (Some r) none some = cc

-- an access that was decided at a time
decided_time : (time : ℕ) (o : Option Access) (x : AccessAt) → ◌≡◌ {A = Option AccessAt} (option_map (λ access. record { time = time; access = access }) o) (Some x) → time ≡ x.time
decided_time time None x is = cc
decided_time time (Some access) x is = cc

decided_access : (time : ℕ) (o : Option Access) → option_map (λ (a : AccessAt). a.access) (option_map (λ access. record { time = time; access = access }) o) ≡ o
decided_access time None = refl
decided_access time (Some access) = refl

-- the later of two times
later_time : (time first second : ℕ) → time ≡ first → second ≤ time → max first second ≡ time
later_time time first second same before = omega arith

earlier_time : (time first second : ℕ) → first ≤ time → time ≡ second → max first second ≡ time
earlier_time time first second before same = omega arith

-- what is kept of a request, by whether it came with its data, and by its data and its completion
abbrev open_by : RequestEvents → Bool → Option DataAt → Option ReplyAt → Open
open_by t whole d r = record {
  id = t.request.id;
  start = t.time;
  fields = t.request.fields;
  is_whole = not (not (whole || is_some d));
  refusal = if whole then refusal_of true (access_of None t.request.fields) else refusal_with t.request.fields d;
  access = option_map (λ (a : AccessAt). a.access)
      (if whole then decided_at t.time t.request.fields else option_and_then (λ d. decided_at d.time (with_packet t.request.fields d.packet)) d);
  completion = option_map (λ (r : ReplyAt). r.reply) r;
}

-- where no data are told, the access and the refusal stay
module _ (e : Event) (t : RequestEvents) (no_data : data_at e.time e.kind ≡ None) where
  same_data : data_told (with_event e t) ≡ data_told t
  same_data = data_more e t ∙ ap (or_else (data_told t)) no_data ∙ or_none (data_told t)

  same_access : access_told (with_event e t) ≡ access_told t
  same_access = ap (λ (o : Option DataAt). if is_whole t.request then decided_at t.time t.request.fields
      else option_and_then (λ d. decided_at d.time (with_packet t.request.fields d.packet)) o) same_data

  pub same_refusal : refusal_told (with_event e t) ≡ refusal_told t
  same_refusal = ap (λ (o : Option DataAt). if is_whole t.request then refusal_of true (access_of None t.request.fields) else refusal_with t.request.fields o) same_data

  same_accepted : reply_at e.time e.kind ≡ None → IsAccepted t → IsAccepted (with_event e t)
  same_accepted no_reply accepted = record {
    decided = λ some. same_refusal ∙ accepted.decided (ap is_some (sym (reply_more e t ∙ ap (or_else (reply_told t)) no_reply ∙ or_none (reply_told t))) ∙ some);
  }

module _ (time : ℕ) (t : RequestEvents) (by : IsBy time t) (accepted : IsAccepted t) (outstanding : is_outstanding t ≡ true) where
  -- an event by which it took no effect
  pub drop_leaves : (e : Event) → data_at e.time e.kind ≡ None → reply_at e.time e.kind ≡ None → is_drop e.kind ≡ true
      → Leaves (with_event e t) [] None × IsAccepted (with_event e t)
  drop_leaves e no_data no_reply drops = (
    dropped (with_event e t) (drop_more e t ∙ or_right (is_dropped t) (is_drop e.kind) drops),
    same_accepted e t no_data no_reply accepted,
  )

  pub reply_leaves : (c : Completion) → reply_fault c (Some (open_of t)) ≡ None
      → let e : Event = record { time = time; kind = event_kind.Reply c } in
      Leaves (with_event e t) (still_open (with_reply c (open_of t))) (ended_by time (with_reply c (open_of t))) × IsAccepted (with_event e t)
  reply_leaves c fault =
      let e : Event = record { time = time; kind = event_kind.Reply c } in
      let at : ReplyAt = record { time = time; reply = c.reply } in
      let faults = no_fault _ _ (ended_fault (refusal_told t) (Some c.reply)) fault in
      let none = none_mapped (λ (r : ReplyAt). r.reply) (reply_told t) faults.0 in
      let reply : reply_told (with_event e t) ≡ Some at = reply_more e t ∙ ap (λ o. or_else o (Some at)) none in
      let same : open_of (with_event e t) ≡ with_reply c (open_of t) =
      ap (λ (d : Option DataAt). open_by t (is_whole t.request) d (reply_told (with_event e t))) (same_data e t refl)
      ∙ ap (λ (r : Option ReplyAt). open_by t (is_whole t.request) (data_told t) r) reply in (
        subst (λ (o : Open). Leaves (with_event e t) (still_open o) (ended_by time o)) same
            (settled (with_event e t) time (drop_more e t ∙ or-false (is_dropped t) ∙ (waiting t outstanding).kept) (λ x y access told. last at x y (sym told ∙ reply)
            (subst (λ (o : Option AccessAt). IfSome o (λ a. a.time ≤ time)) (sym (same_access e t refl) ∙ access) (access_by time t by)) refl)),
        record { decided = λ some. same_refusal e t refl ∙ accepted_by (refusal_told t) (Some at) faults.1 refl },
      )
    where
      last : (at : ReplyAt) (x : AccessAt) (y : ReplyAt) → Some y ≡ Some at → x.time ≤ time → at.time ≡ time → max x.time y.time ≡ time
      last at x y same before is = earlier_time time x.time y.time before cc

  pub data_leaves : (p : Packet) → data_fault p (Some (open_of t)) ≡ None
      → let e : Event = record { time = time; kind = event_kind.Data p } in
      Leaves (with_event e t) (still_open (with_data p (open_of t))) (ended_by time (with_data p (open_of t))) × IsAccepted (with_event e t)
  data_leaves p fault =
      let e : Event = record { time = time; kind = event_kind.Data p } in
      let decision = access_of None (with_packet t.request.fields p) in
      let faults = no_fault _ _ (decided_fault (open_of t).completion decision) fault in
      let waits = or_parts (is_whole t.request) (is_some (data_told t)) (not-true _ (not-false _ faults.0)) in
      let at : DataAt = record { time = time; packet = p } in
      let came : data_told (with_event e t) ≡ Some at = data_more e t ∙ ap (λ o. or_else o (Some at)) (none_from (data_told t) waits.1) in
      let access : access_told (with_event e t) ≡ decided_at time (with_packet t.request.fields p) =
      ap (λ b. if b then decided_at t.time t.request.fields else option_and_then (λ d. decided_at d.time (with_packet t.request.fields d.packet)) (data_told (with_event e t))) waits.0
      ∙ ap (λ (o : Option DataAt). option_and_then (λ d. decided_at d.time (with_packet t.request.fields d.packet)) o) came in
      let refused : refusal_told (with_event e t) ≡ refusal_of true decision =
      ap (λ b. if b then refusal_of true (access_of None t.request.fields) else refusal_with t.request.fields (data_told (with_event e t))) waits.0
      ∙ ap (refusal_with t.request.fields) came in
      let reply : reply_told (with_event e t) ≡ reply_told t = reply_more e t ∙ or_none (reply_told t) in
      let same : open_of (with_event e t) ≡ with_data p (open_of t) =
      ap (λ b. open_by t b (data_told (with_event e t)) (reply_told (with_event e t))) waits.0
      ∙ ap (λ (d : Option DataAt). open_by t false d (reply_told (with_event e t))) came
      ∙ ap (λ (r : Option ReplyAt). open_by t false (Some at) r) reply
      ∙ ap (λ (a : Option Access). record (open_by t false (Some at) (reply_told t)) { access = a }) (decided_access time (result_ok decision)) in (
        subst (λ (o : Open). Leaves (with_event e t) (still_open o) (ended_by time o)) same
            (settled (with_event e t) time (drop_more e t ∙ or-false (is_dropped t) ∙ (waiting t outstanding).kept) (λ x y told replied.
            later_time time x.time y.time (decided_time time (result_ok decision) x (sym access ∙ told))
            (subst (λ (o : Option ReplyAt). IfSome o (λ r. r.time ≤ time)) (sym reply ∙ replied) (reply_by time t by)))),
        record { decided = λ some. refused ∙ accepted_by (refusal_of true decision) (reply_told t) faults.1 (ap is_some (sym reply) ∙ some) },
      )

-- what is left of a request that was taken
abbrev pub new : ℕ → Requested → RequestEvents
new time r = record { time = time; request = r; later = [] }

open_first : (time : ℕ) (r : Requested) (whole : Bool)
    → open_by (new time r) whole None None ≡ record (opened time r) {
      is_whole = whole;
      refusal = refusal_of whole (access_of None r.fields);
      access = if whole then result_ok (access_of None r.fields) else None;
    }
open_first time r true = ap (λ (a : Option Access). record (open_by (new time r) true None None) { access = a }) (decided_access time (result_ok (access_of None r.fields)))
open_first time r false = refl

open_left : (a : Option Access) (o : Open) → a ≡ o.access → o.completion ≡ None → still_open o ≡ o ∷ []
open_left None o access completion = ap (λ (a : Option Access). if is_some a && is_some o.completion then [] else o ∷ []) (sym access)
open_left (Some a) o access completion =
    ap (λ (b : Option Access). if is_some b && is_some o.completion then [] else o ∷ []) (sym access) ∙ ap (λ (r : Option (Option Reply)). if is_some r then [] else o ∷ []) completion

none_ended : (time : ℕ) (a : Option Access) (o : Open) → a ≡ o.access → o.completion ≡ None → ended_by time o ≡ None
none_ended time None o access completion = ap (λ (b : Option Access). ended_by time (record o { access = b })) (sym access)
none_ended time (Some a) o access completion =
    ap (λ (b : Option Access). ended_by time (record o { access = b })) (sym access) ∙ ap (λ (r : Option (Option Reply)). ended_by time (record o { access = Some a; completion = r })) completion

pub request_leaves : (time : ℕ) (r : Requested) → Leaves (new time r) (opened time r ∷ []) None
request_leaves time r =
    let o = opened time r in
    subst (λ (ended : Option Operation). Leaves (new time r) (o ∷ []) ended) (none_ended time o.access o refl refl)
    (subst (λ (left : List Open). Leaves (new time r) left (ended_by time o)) (open_left o.access o refl refl)
    (subst (λ (x : Open). Leaves (new time r) (still_open x) (ended_by time x)) (open_first time r (is_whole r)) (settled (new time r) time refl (λ x y access reply. cc))))

pub request_accepted : (time : ℕ) (r : Requested) → IsAccepted (new time r)
request_accepted time r = record { decided = λ some. absurd (true≢false (sym some)) }
