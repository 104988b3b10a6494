-- what stays true of the outstanding requests, and of an operation that ends
use Rattle.std.specs.Prelude.{if◌then◌else◌}
use Rattle.std.proofs.Common.{◌≡◌, ℕ, ◌+◌, ◌^◌, ◌≤◌, ◌&&◌, Bool, true, false, List, [], ◌∷◌, ◌++◌, All, Option, Some, None, is_some, IfSome, inl, inr, refl, sym, ap, subst, ◌∙◌, arith}
use Rattle.std.specs.List.{Contains}
use Rattle.std.specs.Result.{result_ok}
use Rattle.std.proofs.lemmas.List.Elements.{All-append, All-cons, All-contains, All-contains_itself, All-nil, All-weaker, Contains-append_left, Contains-append_right}
use Rattle.chi_fields.specs.Access.{Access}
use Rattle.chi_lanes.specs.declared.reply.Reply.{Reply}
use Rattle.chi_trace.specs.RequestFields.{access_of}
use Rattle.chi_trace.specs.declared.request_fields.RequestFields.{RequestFields}
use Rattle.chi_trace.specs.declared.operation.Operation.{Operation}
use Rattle.chi_trace.proofs.Decided.{accessed_so, value_of}
use Rattle.chi_events.specs.declared.event.Event.{Event}
use Rattle.chi_events.specs.declared.event.EventKind.{EventKind}
use Rattle.chi_events.specs.declared.event.EventKind.TheVariants as event_kind
use Rattle.chi_events.specs.declared.event.Requested.{Requested}
use Rattle.chi_events.specs.declared.outstanding.Open.{Open}
use Rattle.chi_events.specs.Operations.{is_whole, with_packet}
use Rattle.chi_events.specs.Outstanding.{IsEndOf, IsOpen, StaysOrStarts}
use Rattle.chi_events.specs.EventEffects.{Changes, Takes, ended_by, opened, still_open, with_data, with_reply}

-- an access at an address, within 2^52 bytes
pub record IsAccessAt (addr : ℕ) (a : Access) : Type 0 where
  pub at : a.addr ≡ addr
  pub within : a.addr + a.len ≤ 2 ^ 52

pub accessed : (a : RequestFields) → IfSome (result_ok (access_of None a)) (IsAccessAt a.addr)
accessed a =
    value_of (access_of None a) (IsAccessAt a.addr)
    (accessed_so None a (IsAccessAt a.addr) tt (λ line kind is passes. record { at = refl; within = omega (arith, passes.below, is.end) }))

-- an open request by its access
abbrev HasAccess : ℕ → Option Access → Type 0
HasAccess addr o = IfSome o (IsAccessAt addr)

open_from : (time : ℕ) (o : Open) → o.start ≤ time → HasAccess o.fields.addr o.access → IsOpen time o
open_from time o before has = record { start = before; at = at_of o.access has; within = within_of o.access has }
  where
    at_of : (a : Option Access) → HasAccess o.fields.addr a → IfSome a (λ access. access.addr ≡ o.fields.addr)
    at_of None has = tt
    at_of (Some a) has = has.at

    within_of : (a : Option Access) → HasAccess o.fields.addr a → IfSome a (λ access. access.addr + access.len ≤ 2 ^ 52)
    within_of None has = tt
    within_of (Some a) has = has.within

has_access : (time : ℕ) (o : Open) → IsOpen time o → HasAccess o.fields.addr o.access
has_access time o is = by_access o.access is.at is.within
  where
    by_access : (a : Option Access) → IfSome a (λ access. access.addr ≡ o.fields.addr) → IfSome a (λ access. access.addr + access.len ≤ 2 ^ 52) → HasAccess o.fields.addr a
    by_access None at within = tt
    by_access (Some a) at within = record { at = at; within = within }

-- the request as an event leaves it, as it was asked
pub record Follows (time : ℕ) (request now : Open) : Type 0 where
  pub start : now.start ≡ request.start
  pub fields : now.fields ≡ request.fields
  pub before : now.start ≤ time
  pub has : HasAccess now.fields.addr now.access

ends_at : (before : List Open) (time : ℕ) (request now : Open) → Contains before request → Follows time request now → IfSome (ended_by time now) (IsEndOf before time)
ends_at before time request now is follows = by_parts now.access now.completion follows.has
  where
    by_parts : (a : Option Access) (r : Option (Option Reply)) → HasAccess now.fields.addr a
        → IfSome (ended_by time (record now { access = a; completion = r })) (IsEndOf before time)
    by_parts None r has = tt
    by_parts (Some a) None has = tt
    by_parts (Some a) (Some r) has = record {
      request = request;
      is = is;
      start = follows.start;
      at = has.at ∙ ap (λ (a : RequestFields). a.addr) follows.fields;
      within = has.within;
      end = refl;
      lasting = follows.before;
    }

-- what is true after an event
pub record Stays (before : List Open) (e : Event) (op : Option Operation) (after : List Open) : Type 0 where
  pub are_open : All (IsOpen e.time) after
  pub ended : IfSome op (IsEndOf before e.time)
  pub requests : All (StaysOrStarts before e) after

left_all : (P : Open → Type 0) (b : Bool) (o : Open) → P o → All P (if b then [] else o ∷ [])
left_all P true o here = All-nil P
left_all P false o here = All-cons P o [] here (All-nil P)

module _ (before : List Open) (first time : ℕ) (open_before : All (IsOpen first) before) (later : first ≤ time) where
  is_open : (o : Open) → Contains before o → IsOpen time o
  is_open o has = let is = All-contains (IsOpen first) before o open_before has in record { start = omega (arith, is.start, later); at = is.at; within = is.within }

  open_later : (requests : List Open) → ((o : Open) → Contains requests o → Contains before o) → All (IsOpen time) requests
  open_later requests among = All-weaker (Contains requests) (IsOpen time) (λ o has. is_open o (among o has)) requests (All-contains_itself requests)

  -- an event of a kind
  module _ (kind : EventKind) where
    abbrev e : Event
    e = record { time = time; kind = kind }

    stay : (requests : List Open) → ((o : Open) → Contains requests o → Contains before o) → All (StaysOrStarts before e) requests
    stay requests among = All-weaker (Contains requests) (StaysOrStarts before e) (λ o has. inr (o, among o has, refl, refl)) requests (All-contains_itself requests)

    same : Stays before e None before
    same = record { are_open = open_later before (λ o has. has); ended = tt; requests = stay before (λ o has. has) }

    same_as : (op : Option Operation) (after : List Open) → op ≡ None → after ≡ before → Stays before e op after
    same_as op after none is = subst (λ (o : Option Operation). Stays before e o after) (sym none) (subst (Stays before e None) (sym is) same)

    -- one request changes
    module _ (id : ℕ) (left : Open → List Open) (end : Open → Option Operation) (op : Option Operation) (after : List Open) (k : Changes id left end before op after) where
      has_request : Contains before k.request
      has_request = subst (λ (l : List Open). Contains l k.request) (sym k.was) (Contains-append_right k.first (k.request ∷ k.rest) k.request (0, omega arith, refl))

      has_first : (o : Open) → Contains k.first o → Contains before o
      has_first o has = subst (λ (l : List Open). Contains l o) (sym k.was) (Contains-append_left k.first (k.request ∷ k.rest) o has)

      has_rest : (o : Open) → Contains k.rest o → Contains before o
      has_rest o has = subst (λ (l : List Open). Contains l o) (sym k.was)
          (Contains-append_right k.first (k.request ∷ k.rest) o (Contains-append_right (k.request ∷ []) k.rest o has))

      one_changes : All (IsOpen time) (left k.request) → All (StaysOrStarts before e) (left k.request) → IfSome (end k.request) (IsEndOf before time) → Stays before e op after
      one_changes are_open stays ends = record {
        are_open = subst (All (IsOpen time)) (sym k.is) (All-append (IsOpen time) k.first (left k.request ++ k.rest) (open_later k.first has_first)
            (All-append (IsOpen time) (left k.request) k.rest are_open (open_later k.rest has_rest)));
        ended = subst (λ (o : Option Operation). IfSome o (IsEndOf before time)) (sym k.ends) ends;
        requests = subst (All (StaysOrStarts before e)) (sym k.is) (All-append (StaysOrStarts before e) k.first (left k.request ++ k.rest) (stay k.first has_first)
            (All-append (StaysOrStarts before e) (left k.request) k.rest stays (stay k.rest has_rest)));
      }

      now_changes : (now : Open) → left k.request ≡ still_open now → end k.request ≡ ended_by time now → Follows time k.request now → Stays before e op after
      now_changes now leaves ends follows = one_changes
          (subst (All (IsOpen time)) (sym leaves) (left_all (IsOpen time) (is_some now.access && is_some now.completion) now (open_from time now follows.before follows.has)))
          (subst (All (StaysOrStarts before e)) (sym leaves)
          (left_all (StaysOrStarts before e) (is_some now.access && is_some now.completion) now (inr (k.request, has_request, follows.start, follows.fields))))
          (subst (λ (o : Option Operation). IfSome o (IsEndOf before time)) (sym ends) (ends_at before time k.request now has_request follows))

  -- a request is taken
  new_one : (r : Requested) → Stays before (record { time = time; kind = event_kind.Request r }) None (before ++ opened time r ∷ [])
  new_one r =
      let e : Event = record { time = time; kind = event_kind.Request r } in
      record {
        are_open = All-append (IsOpen time) before (opened time r ∷ []) (same (event_kind.Request r)).are_open
            (All-cons (IsOpen time) (opened time r) [] (open_from time (opened time r) (omega arith) (by_whole (is_whole r))) (All-nil (IsOpen time)));
        ended = tt;
        requests = All-append (StaysOrStarts before e) before (opened time r ∷ []) (same (event_kind.Request r)).requests
            (All-cons (StaysOrStarts before e) (opened time r) [] (inl (refl, (r, refl, refl))) (All-nil (StaysOrStarts before e)));
      }
    where
      by_whole : (b : Bool) → HasAccess r.fields.addr (if b then result_ok (access_of None r.fields) else None)
      by_whole true = accessed r.fields
      by_whole false = tt

  pub stays_more : (kind : EventKind) (op : Option Operation) (after : List Open) → Takes kind time before op after → Stays before (record { time = time; kind = kind }) op after
  stays_more (event_kind.Request r) op after takes =
      let e : Event = record { time = time; kind = event_kind.Request r } in
      subst (λ (o : Option Operation). Stays before e o after) (sym takes.0) (subst (Stays before e None) (sym takes.1) (new_one r))
  stays_more (event_kind.Data p) op after takes =
      let left = λ (o : Open). still_open (with_data p o) in
      let end = λ (o : Open). ended_by time (with_data p o) in
      let is = is_open takes.request (has_request (event_kind.Data p) p.id left end op after takes) in
      now_changes (event_kind.Data p) p.id left end op after takes (with_data p takes.request) refl refl
      (record { start = refl; fields = refl; before = is.start; has = accessed (with_packet takes.request.fields p) })
  stays_more (event_kind.Reply c) op after takes =
      let left = λ (o : Open). still_open (with_reply c o) in
      let end = λ (o : Open). ended_by time (with_reply c o) in
      let is = is_open takes.request (has_request (event_kind.Reply c) c.id left end op after takes) in
      now_changes (event_kind.Reply c) c.id left end op after takes (with_reply c takes.request) refl refl
      (record { start = refl; fields = refl; before = is.start; has = has_access time takes.request is })
  stays_more (event_kind.Dropped id) op after takes =
      let e : Event = record { time = time; kind = event_kind.Dropped id } in
      one_changes (event_kind.Dropped id) id (λ o. []) (λ o. None) op after takes (All-nil (IsOpen time)) (All-nil (StaysOrStarts before e)) tt
  stays_more (event_kind.Refused id reason) op after takes =
      let e : Event = record { time = time; kind = event_kind.Refused id reason } in
      one_changes (event_kind.Refused id reason) id (λ o. []) (λ o. None) op after takes (All-nil (IsOpen time)) (All-nil (StaysOrStarts before e)) tt
  stays_more (event_kind.Word w) op after takes = same_as (event_kind.Word w) op after takes.0 takes.1
  stays_more (event_kind.Final w) op after takes = same_as (event_kind.Final w) op after takes.0 takes.1
  stays_more (event_kind.Unknown addr len) op after takes = same_as (event_kind.Unknown addr len) op after takes.0 takes.1
  stays_more event_kind.End op after takes = same_as event_kind.End op after takes.0 takes.1
