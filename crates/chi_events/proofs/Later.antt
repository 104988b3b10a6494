-- what is told of one request, with one event more about it
use Rattle.std.specs.Prelude.{◌-◌, ◌^◌, if◌then◌else◌, max, option_map, option_and_then}
use Rattle.std.proofs.Common.{◌≡◌, ℕ, ◌≤◌, Bool, true, false, not, cond, ◌||◌, ◌&&◌, List, [], ◌∷◌, ◌++◌, map, filter, filter_map, All, Option, Some, None, IfSome, is_some, option_to_list, refl, ap, ◌∙◌}
use Rattle.std.specs.List.{cons_option}
use Rattle.std.specs.Option.{unwrap_or}
use Rattle.std.specs.Result.{result_ok}
use Rattle.std.proofs.lemmas.Bool.{not-true, or_parts}
use Rattle.std.proofs.lemmas.List.Elements.{All-head, All-tail}
use Rattle.std.proofs.lemmas.List.Folds.{list_any-append}
use Rattle.std.proofs.Math.Bool.{or-false}
use Rattle.chi_fields.specs.Access.{Access}
use Rattle.chi_trace.specs.RequestFields.{access_of, as_operation}
use Rattle.chi_trace.specs.declared.operation.Operation.{Operation}
use Rattle.chi_events.specs.declared.event.Event.{Event}
use Rattle.chi_trace.specs.declared.request_fields.RequestFields.{RequestFields}
use Rattle.chi_events.specs.declared.event.EventKind.{EventKind}
use Rattle.chi_events.specs.declared.event.EventKind.TheVariants as event_kind
use Rattle.chi_events.specs.declared.outstanding.Open.{Open}
use Rattle.chi_events.specs.Operations.{AccessAt, DataAt, ReplyAt, access_told, data_at, data_told, decided_at, ended_at, first, is_drop, is_dropped, is_outstanding, is_whole, operation_of, refused_at, refused_told, reply_at, reply_told, with_packet}
use Rattle.chi_events.specs.Outstanding.{open_of}
use Rattle.chi_events.specs.EventEffects.{ended_by, still_open}
use Rattle.chi_events.specs.RequestEvents.{RequestEvents}
use Rattle.chi_events.proofs.Extended.{with_event}

-- the first of two, where there is one
abbrev pub or_else : {X : Type 0} → Option X → Option X → Option X
or_else (Some x) other = Some x
or_else None other = other

first_more : {X : Type 0} (f : Event → Option X) (xs : List Event) (e : Event) → first (filter_map f (xs ++ e ∷ [])) ≡ or_else (first (filter_map f xs)) (f e)
first_more {X} f [] e = here (f e)
  where
    here : (o : Option X) → first (cons_option o []) ≡ o
    here None = refl
    here (Some x) = refl
first_more {X} f (y ∷ xs) e = by_head (f y) (first_more f xs e)
  where
    by_head : (o : Option X) → first (filter_map f (xs ++ e ∷ [])) ≡ or_else (first (filter_map f xs)) (f e)
        → first (cons_option o (filter_map f (xs ++ e ∷ []))) ≡ or_else (first (cons_option o (filter_map f xs))) (f e)
    by_head None same = same
    by_head (Some x) same = refl

pub data_more : (e : Event) (t : RequestEvents) → data_told (with_event e t) ≡ or_else (data_told t) (data_at e.time e.kind)
data_more e t = first_more (λ x. data_at x.time x.kind) t.later e

pub reply_more : (e : Event) (t : RequestEvents) → reply_told (with_event e t) ≡ or_else (reply_told t) (reply_at e.time e.kind)
reply_more e t = first_more (λ x. reply_at x.time x.kind) t.later e

pub drop_more : (e : Event) (t : RequestEvents) → is_dropped (with_event e t) ≡ (is_dropped t || is_drop e.kind)
drop_more e t = list_any-append (λ x. is_drop x.kind) t.later (e ∷ []) ∙ ap (λ b. is_dropped t || b) (or-false (is_drop e.kind))

pub refused_more : (e : Event) (t : RequestEvents) → refused_told (with_event e t) ≡ or_else (refused_told t) (refused_at e.kind)
refused_more e t = first_more (λ x. refused_at x.kind) t.later e

pub or_none : {X : Type 0} (o : Option X) → or_else o None ≡ o
or_none None = refl
or_none (Some x) = refl

-- an outstanding request was not dropped, and its completion had not left where its data have come
pub record IsWaiting (t : RequestEvents) : Type 0 where
  pub kept : is_dropped t ≡ false
  pub lasts : is_some (ended_at t) ≡ false

pub waiting : (t : RequestEvents) → is_outstanding t ≡ true → IsWaiting t
waiting t is = let parts = or_parts (is_dropped t) (is_some (ended_at t)) (not-true _ is) in record { kept = parts.0; lasts = parts.1 }

-- when it was told, no later than a time
pub record IsBy (time : ℕ) (t : RequestEvents) : Type 0 where
  pub start : t.time ≤ time
  pub later : All (λ e. e.time ≤ time) t.later

first_by : {X : Type 0} (f : Event → Option X) (P : X → Type 0) (time : ℕ) → ((e : Event) → e.time ≤ time → IfSome (f e) P) → (xs : List Event)
    → All (λ e. e.time ≤ time) xs → IfSome (first (filter_map f xs)) P
first_by f P time each [] all = tt
first_by {X} f P time each (e ∷ xs) all = by_head (f e) (each e (All-head (λ e. e.time ≤ time) e xs all)) (first_by f P time each xs (All-tail (λ e. e.time ≤ time) e xs all))
  where
    by_head : (o : Option X) → IfSome o P → IfSome (first (filter_map f xs)) P → IfSome (first (cons_option o (filter_map f xs))) P
    by_head None is rest = rest
    by_head (Some x) is rest = is

module _ (time : ℕ) where
  -- its access, or its completion, was told no later than a time
  abbrev AccessBy : Option AccessAt → Type 0
  AccessBy o = IfSome o (λ a. a.time ≤ time)

  decided_by : (at : ℕ) → at ≤ time → (o : Option Access) → AccessBy (option_map (λ access. record { time = at; access = access }) o)
  decided_by at before None = tt
  decided_by at before (Some access) = before

  either_by : (b : Bool) (x y : Option AccessAt) → AccessBy x → AccessBy y → AccessBy (if b then x else y)
  either_by true x y here there = here
  either_by false x y here there = there

  data_by : (fields : RequestFields) (o : Option DataAt) → IfSome o (λ d. d.time ≤ time) → AccessBy (option_and_then (λ d. decided_at d.time (with_packet fields d.packet)) o)
  data_by fields None before = tt
  data_by fields (Some d) before = decided_by d.time before (result_ok (access_of None (with_packet fields d.packet)))

  pub access_by : (t : RequestEvents) → IsBy time t → AccessBy (access_told t)
  access_by t by =
      either_by (is_whole t.request) _ _ (decided_by t.time by.start (result_ok (access_of None t.request.fields)))
      (data_by t.request.fields (data_told t) (first_by (λ x. data_at x.time x.kind) (λ d. d.time ≤ time) time each t.later by.later))
    where
      kind_by : (at : ℕ) (kind : EventKind) → at ≤ time → IfSome (data_at at kind) (λ d. d.time ≤ time)
      kind_by at (event_kind.Data p) before = before
      kind_by at _ before = tt

      each : (e : Event) → e.time ≤ time → IfSome (data_at e.time e.kind) (λ d. d.time ≤ time)
      each e before = kind_by e.time e.kind before

  pub reply_by : (t : RequestEvents) → IsBy time t → IfSome (reply_told t) (λ r. r.time ≤ time)
  reply_by t by = first_by (λ x. reply_at x.time x.kind) (λ r. r.time ≤ time) time each t.later by.later
    where
      kind_by : (at : ℕ) (kind : EventKind) → at ≤ time → IfSome (reply_at at kind) (λ r. r.time ≤ time)
      kind_by at (event_kind.Reply c) before = before
      kind_by at _ before = tt

      each : (e : Event) → e.time ≤ time → IfSome (reply_at e.time e.kind) (λ r. r.time ≤ time)
      each e before = kind_by e.time e.kind before

-- when an operation ended, whether it is outstanding, and what it is, by its access and its completion
abbrev end_by : Option AccessAt → Option ReplyAt → Option ℕ
end_by a r = option_and_then (λ (x : AccessAt). option_map (λ (y : ReplyAt). max x.time y.time) r) a

abbrev outstanding_by : Bool → Option AccessAt → Option ReplyAt → Bool
outstanding_by dropped a r = not (dropped || is_some (end_by a r))

abbrev operation_by : RequestEvents → Option AccessAt → Option ReplyAt → Option Operation
operation_by t a r = option_map (λ (x : AccessAt). as_operation t.request.fields x.access t.time (unwrap_or (end_by a r) (2 ^ 64 - 1))
    (option_and_then (λ end. option_and_then (λ (y : ReplyAt). y.reply) r) (end_by a r))) a

-- what is left of a request, and the operation that it was, where it has ended
pub record Leaves (t : RequestEvents) (left : List Open) (ended : Option Operation) : Type 0 where
  pub keeps : map open_of (filter is_outstanding (t ∷ [])) ≡ left
  pub ends : filter_map operation_of (filter (λ x. not (is_outstanding x)) (t ∷ [])) ≡ option_to_list ended

keeps_by : (t : RequestEvents) (a : Option AccessAt) (r : Option ReplyAt)
    → map open_of (cond (outstanding_by false a r) (t ∷ []) [])
    ≡ (if is_some (option_map (λ (x : AccessAt). x.access) a) && is_some (option_map (λ (y : ReplyAt). y.reply) r) then [] else open_of t ∷ [])
keeps_by t None r = refl
keeps_by t (Some a) None = refl
keeps_by t (Some a) (Some r) = refl

ends_by : (t : RequestEvents) (time : ℕ) (a : Option AccessAt) (r : Option ReplyAt) → ((x : AccessAt) (y : ReplyAt) → a ≡ Some x → r ≡ Some y → max x.time y.time ≡ time)
    → operation_of t ≡ operation_by t a r → filter_map operation_of (cond (not (outstanding_by false a r)) (t ∷ []) [])
    ≡ option_to_list (option_and_then (λ access. option_map (λ reply. as_operation t.request.fields access t.time time reply)
    (option_map (λ (y : ReplyAt). y.reply) r)) (option_map (λ (x : AccessAt). x.access) a))
ends_by t time None r last same = refl
ends_by t time (Some a) None last same = refl
ends_by t time (Some a) (Some r) last same =
    let ended : ℕ → Operation = λ end. as_operation t.request.fields a.access t.time end r.reply in
    ap (λ o. cons_option o []) same ∙ ap (λ n. ended n ∷ []) (last a r refl refl)

-- a request that was not dropped ends by its access and its completion, the later of which was told at this time
pub settled : (t : RequestEvents) (time : ℕ) → is_dropped t ≡ false → ((x : AccessAt) (y : ReplyAt) → access_told t ≡ Some x → reply_told t ≡ Some y → max x.time y.time ≡ time)
    → Leaves t (still_open (open_of t)) (ended_by time (open_of t))
settled t time kept last = record {
  keeps = ap (λ d. map open_of (cond (outstanding_by d (access_told t) (reply_told t)) (t ∷ []) [])) kept ∙ keeps_by t (access_told t) (reply_told t);
  ends = ap (λ d. filter_map operation_of (cond (not (outstanding_by d (access_told t) (reply_told t))) (t ∷ []) [])) kept
      ∙ ends_by t time (access_told t) (reply_told t) last (ap (λ d. if d then None else operation_by t (access_told t) (reply_told t)) kept);
}

-- a request that was dropped leaves nothing
pub dropped : (t : RequestEvents) → is_dropped t ≡ true → Leaves t [] None
dropped t is = record {
  keeps = ap (λ d. map open_of (cond (outstanding_by d (access_told t) (reply_told t)) (t ∷ []) [])) is;
  ends = ap (λ d. filter_map operation_of (cond (not (outstanding_by d (access_told t) (reply_told t))) (t ∷ []) [])) is
      ∙ ap (λ d. cons_option (if d then None else operation_by t (access_told t) (reply_told t)) []) is;
}
