-- why requests were refused, with one event more
use Rattle.std.specs.Prelude.{◌==◌, if◌then◌else◌, option_and_then}
use Rattle.std.proofs.Common.{◌≡◌, ℕ, Bool, true, false, List, [], ◌∷◌, ◌++◌, filter_map, Option, Some, None, option_to_list, IsPermutation, append-nil, refl, sym, ap, subst, ◌∙◌}
use Rattle.std.specs.List.{cons_option, list_any}
use Rattle.std.specs.Option.{option_or}
use Rattle.std.proofs.lemmas.Bool.{or_parts, true≢false}
use Rattle.std.proofs.lemmas.List.Elements.{filter_map-append}
use Rattle.std.proofs.lemmas.List.Sorted.{IsPermutation-refl}
use Rattle.chi_fields.specs.declared.refusal.Refusal.{Refusal}
use Rattle.chi_trace.specs.declared.operation.Operation.{Operation}
use Rattle.chi_events.specs.declared.event.Event.{Event}
use Rattle.chi_events.specs.declared.event.EventKind.{EventKind}
use Rattle.chi_events.specs.declared.event.EventKind.TheVariants as event_kind
use Rattle.chi_events.specs.declared.outstanding.Open.{Open}
use Rattle.chi_events.specs.Operations.{first, is_drop, is_outstanding, reason_of, refusal_told, refusals_told, refused_at, refused_told}
use Rattle.chi_events.specs.Outstanding.{OutstandingValue, Tells, open_of, refusal_by}
use Rattle.chi_events.specs.EventEffects.{Changes, Takes}
use Rattle.chi_events.specs.RequestEvents.{RequestEvents, each_request, later_of}
use Rattle.chi_events.proofs.Extended.{IsAbout, told_none, told_request, with_event}
use Rattle.chi_events.proofs.Later.{or_else, refused_more, waiting}
use Rattle.chi_events.proofs.OneMore.{data_about, drop_about, refused_about, reply_about}
use Rattle.chi_events.proofs.Splits.{middle_last}
use Rattle.chi_events.proofs.Steps.{same_refusal}
use Rattle.chi_events.proofs.Taken.{changed_at}

-- a request that was not dropped was not refused
not_refused : (later : List Event) → list_any (λ e. is_drop e.kind) later ≡ false → first (filter_map (λ e. refused_at e.kind) later) ≡ None
not_refused [] kept = refl
not_refused (e ∷ later) kept =
    let parts = or_parts (is_drop e.kind) (list_any (λ e. is_drop e.kind) later) kept in by_kind e.kind parts.0 (not_refused later parts.1)
  where
    by_kind : (k : EventKind) → is_drop k ≡ false → first (filter_map (λ e. refused_at e.kind) later) ≡ None
        → first (cons_option (refused_at k) (filter_map (λ e. refused_at e.kind) later)) ≡ None
    by_kind (event_kind.Refused id reason) is rest = absurd (true≢false is)
    by_kind _ is rest = rest

-- why it was refused, where this event is the first that says so
abbrev given_by : EventKind → Option Refusal → Option Refusal
given_by k refused = option_and_then (λ given. option_or given refused) (refused_at k)

module _ (t : RequestEvents) (outstanding : is_outstanding t ≡ true) where
  none_before : refused_told t ≡ None
  none_before = not_refused t.later (waiting t outstanding).kept

  reason_more : (e : Event) → reason_of (with_event e t) ≡ given_by e.kind (refusal_told (with_event e t))
  reason_more e =
      ap (λ (o : Option (Option Refusal)). option_and_then (λ given. option_or given (refusal_told (with_event e t))) o)
      (refused_more e t ∙ ap (λ o. or_else o (refused_at e.kind)) none_before)

-- what is taken of a list in three parts
taken_middle : {T U : Type 0} (f : T → Option U) (xs : List T) (t : T) (ys : List T) → filter_map f (xs ++ t ∷ ys) ≡ filter_map f xs ++ (option_to_list (f t) ++ filter_map f ys)
taken_middle f xs t ys = filter_map-append f xs (t ∷ ys) ∙ ap (λ l. filter_map f xs ++ l) (one (f t) (filter_map f ys))
  where
    one : {U : Type 0} (o : Option U) (l : List U) → cons_option o l ≡ option_to_list o ++ l
    one None l = refl
    one (Some u) l = refl

module _ (events : List Event) (ended : List Operation) (o : OutstandingValue) (tells : Tells events ended o) where
  -- these are the refusals that the events and one more tell
  abbrev Refuses : Event → Option Refusal → Type 0
  Refuses e reason = IsPermutation (refusals_told (events ++ e ∷ [])) (refusals_told events ++ option_to_list reason)

  same : (e : Event) → refusals_told (events ++ e ∷ []) ≡ refusals_told events → Refuses e None
  same e is = subst (IsPermutation (refusals_told (events ++ e ∷ []))) (is ∙ sym (append-nil (refusals_told events))) (IsPermutation-refl (refusals_told (events ++ e ∷ [])))

  -- the event is about an outstanding request
  changed : (e : Event) (a : List Open) (x : Open) (b : List Open) (reason : Option Refusal) → o.requests ≡ a ++ x ∷ b → IsAbout x.id e
      → ((t : RequestEvents) → open_of t ≡ x → given_by e.kind (refusal_told (with_event e t)) ≡ reason) → Refuses e reason
  changed e a x b reason has about given =
      let there = changed_at events ended o e a x b tells has about in
      let s = there.at in
      let first = filter_map reason_of s.before in
      let rest = filter_map reason_of s.after in
      let now : refusals_told (events ++ e ∷ []) ≡ first ++ (option_to_list reason ++ rest) =
      ap (filter_map reason_of) there.is ∙ taken_middle reason_of s.before (with_event e s.item) s.after
      ∙ ap (λ (r : Option Refusal). first ++ (option_to_list r ++ rest)) (reason_more s.item s.passes e ∙ given s.item s.same) in
      let before : refusals_told events ≡ first ++ rest =
      ap (filter_map reason_of) s.is ∙ taken_middle reason_of s.before s.item s.after
      ∙ ap (λ (g : Option (Option Refusal)). first ++ (option_to_list (option_and_then (λ given. option_or given (refusal_told s.item)) g) ++ rest)) (none_before s.item s.passes) in
      subst (λ (l : List Refusal). IsPermutation l (refusals_told events ++ option_to_list reason)) (sym now)
      (middle_last first reason rest (refusals_told events) (subst (IsPermutation (first ++ rest)) (sym before) (IsPermutation-refl (first ++ rest))))

  changed_by : (e : Event) (id : ℕ) (left : Open → List Open) (end : Open → Option Operation) (op : Option Operation) (after : List Open) (reason : Option Refusal)
      → (k : Changes id left end o.requests op after) → IsAbout id e
      → ((t : RequestEvents) → open_of t ≡ k.request → given_by e.kind (refusal_told (with_event e t)) ≡ reason) → Refuses e reason
  changed_by e id left end op after reason k about given = changed e k.first k.request k.rest reason k.was (subst (λ n. IsAbout n e) (sym k.number) about) given

  pub refusals_more : (time : ℕ) (kind : EventKind) (op : Option Operation) (after : List Open) → Takes kind time o.requests op after
      → Refuses (record { time = time; kind = kind }) (refusal_by o.requests kind)
  unfolding later_of
  refusals_more time (event_kind.Request r) op after takes =
      let e : Event = record { time = time; kind = event_kind.Request r } in
      same e (ap (filter_map reason_of) (told_request e r events refl (λ id. nothing (r.id == id)))
      ∙ filter_map-append reason_of (each_request events) (record { time = time; request = r; later = [] } ∷ []) ∙ append-nil (refusals_told events))
    where
      nothing : (b : Bool) → ◌≡◌ {A = List Event} (if b then [] else []) []
      nothing true = refl
      nothing false = refl
  refusals_more time (event_kind.Data p) op after takes =
      changed_by (record { time = time; kind = event_kind.Data p }) p.id _ _ op after None takes (data_about time p) (λ t same. refl)
  refusals_more time (event_kind.Reply c) op after takes =
      changed_by (record { time = time; kind = event_kind.Reply c }) c.id _ _ op after None takes (reply_about time c) (λ t same. refl)
  refusals_more time (event_kind.Dropped id) op after takes =
      changed_by (record { time = time; kind = event_kind.Dropped id }) id _ _ op after None takes (drop_about time id) (λ t same. refl)
  refusals_more time (event_kind.Refused id reason) op after takes =
      let e : Event = record { time = time; kind = event_kind.Refused id reason } in
      changed_by e id (λ o. []) (λ o. None) op after (refusal_by o.requests e.kind) takes (refused_about time id reason)
      (λ t same. ap (option_or reason) (same_refusal e t refl ∙ ap (λ (x : Open). x.refusal) same ∙ ap (λ (x : Option Open). option_and_then (λ x. x.refusal) x) (sym takes.found)))
  refusals_more time (event_kind.Word w) op after takes =
      let e : Event = record { time = time; kind = event_kind.Word w } in same e (ap (filter_map reason_of) (told_none e events refl (λ id. refl)))
  refusals_more time (event_kind.Final w) op after takes =
      let e : Event = record { time = time; kind = event_kind.Final w } in same e (ap (filter_map reason_of) (told_none e events refl (λ id. refl)))
  refusals_more time (event_kind.Unknown addr len) op after takes =
      let e : Event = record { time = time; kind = event_kind.Unknown addr len } in same e (ap (filter_map reason_of) (told_none e events refl (λ id. refl)))
  refusals_more time event_kind.End op after takes =
      let e : Event = record { time = time; kind = event_kind.End } in same e (ap (filter_map reason_of) (told_none e events refl (λ id. refl)))
