-- what events tell, and one more
use Rattle.std.specs.Prelude.{◌==◌, if◌then◌else◌}
use Rattle.std.proofs.Common.{◌≡◌, ℕ, ◌-◌, ◌≤◌, Bool, true, false, not, cond, List, [], ◌∷◌, ◌++◌, map, filter, filter_map, length, get_or, All, Option, Some, None, option_to_list, IsPermutation, append-nil, refl, sym, ap, subst, ◌∙◌, arith, eq-eqb, ne_eqb}
use Rattle.std.specs.List.{AllPairs}
use Rattle.std.specs.List.Sorted.{IsNonDecreasingBy}
use Rattle.std.proofs.lemmas.Bool.{or_from, true≢false}
use Rattle.std.proofs.lemmas.List.{map-append}
use Rattle.std.proofs.lemmas.List.Elements.{All-cons, All-head, All-nil, All-push, All-tail, All-weaker, filter-append, filter_map-append}
use Rattle.std.proofs.lemmas.List.Quantifiers.{all_pairs_push}
use Rattle.std.proofs.lemmas.List.Sorted.{IsNonDecreasingBy-push}
use Rattle.chi_trace.specs.declared.operation.Operation.{Operation}
use Rattle.chi_events.specs.declared.event.Event.{Event}
use Rattle.chi_events.specs.declared.event.EventKind.TheVariants as event_kind
use Rattle.chi_events.specs.declared.event.Requested.{Requested}
use Rattle.chi_events.specs.declared.outstanding.Open.{Open}
use Rattle.chi_events.specs.Operations.{is_outstanding, operation_of}
use Rattle.chi_events.specs.Outstanding.{IsAccepted, IsEvent, OutstandingValue, Tells, open_of, open_with}
use Rattle.chi_events.specs.EventEffects.{opened}
use Rattle.chi_events.specs.RequestEvents.{RequestEvents, each_request, is_about, is_request_of, later_of, request_events, requested}
use Rattle.chi_events.proofs.Extended.{IsAbout, has_id, told_at, told_none, told_request, with_event}
use Rattle.chi_events.proofs.Later.{IsBy, Leaves}
use Rattle.chi_events.proofs.Splits.{Split, all_changed, all_item, middle_last, pairs_changed, pairs_item, split_at}
use Rattle.chi_events.proofs.Steps.{new, request_accepted, request_leaves}

-- what is told by a time
module _ (time : ℕ) where
  later_by : (id : ℕ) (events : List Event) → All (λ e. e.time ≤ time) events → All (λ e. e.time ≤ time) (later_of id events)
  unfolding later_of
  later_by id [] all = All-nil (λ e. e.time ≤ time)
  later_by id (e ∷ events) all =
      by_tests (is_request_of id e) (is_about id e) (All-head (λ e. e.time ≤ time) e events all) (later_by id events (All-tail (λ e. e.time ≤ time) e events all))
    where
      by_tests : (b c : Bool) → e.time ≤ time → All (λ e. e.time ≤ time) (later_of id events)
          → All (λ e. e.time ≤ time) (if b then [] else if c then e ∷ later_of id events else later_of id events)
      by_tests true c here rest = All-nil (λ e. e.time ≤ time)
      by_tests false true here rest = All-cons (λ e. e.time ≤ time) e (later_of id events) here rest
      by_tests false false here rest = rest

  pub all_by : (events : List Event) → All (λ e. e.time ≤ time) events → All (IsBy time) (each_request events)
  unfolding each_request
  all_by [] all = All-nil (IsBy time)
  all_by (e ∷ events) all = by_request (requested e.kind) (all_by events (All-tail (λ e. e.time ≤ time) e events all))
    where
      by_request : (q : Option Requested) → All (IsBy time) (each_request events) → All (IsBy time) (request_events e.time q events ++ each_request events)
      by_request None rest = rest
      by_request (Some r) rest =
          All-cons (IsBy time) (record { time = e.time; request = r; later = later_of r.id events }) (each_request events)
          (record { start = All-head (λ e. e.time ≤ time) e events all; later = later_by r.id events (All-tail (λ e. e.time ≤ time) e events all) }) rest

-- lists in three parts
kept_middle : {T U : Type 0} (p : T → Bool) (f : T → U) (xs : List T) (t : T) (ys : List T)
    → map f (filter p (xs ++ t ∷ ys)) ≡ map f (filter p xs) ++ (map f (filter p (t ∷ [])) ++ map f (filter p ys))
kept_middle p f xs t ys =
    ap (map f) (filter-append p xs (t ∷ ys)) ∙ map-append f (filter p xs) (filter p (t ∷ ys))
    ∙ ap (λ l. map f (filter p xs) ++ l) (ap (map f) (filter-append p (t ∷ []) ys) ∙ map-append f (filter p (t ∷ [])) (filter p ys))

ended_middle : {T U : Type 0} (p : T → Bool) (f : T → Option U) (xs : List T) (t : T) (ys : List T)
    → filter_map f (filter p (xs ++ t ∷ ys)) ≡ filter_map f (filter p xs) ++ (filter_map f (filter p (t ∷ [])) ++ filter_map f (filter p ys))
ended_middle p f xs t ys =
    ap (filter_map f) (filter-append p xs (t ∷ ys)) ∙ filter_map-append f (filter p xs) (filter p (t ∷ ys))
    ∙ ap (λ l. filter_map f (filter p xs) ++ l) (ap (filter_map f) (filter-append p (t ∷ []) ys) ∙ filter_map-append f (filter p (t ∷ [])) (filter p ys))

-- an outstanding request, and one later of another number
abbrev Parts : RequestEvents → RequestEvents → Type 0
Parts t later = is_outstanding t ≡ true → t.request.id ≡ later.request.id → ⊥

no_later : (n : ℕ) (ts : List RequestEvents) → All (λ t. n ≡ t.request.id → ⊥) ts → has_id n ts ≡ false
no_later n [] all = refl
no_later n (t ∷ ts) all =
    or_from (t.request.id == n) (has_id n ts) (ne_eqb t.request.id n (λ same. All-head (λ t. n ≡ t.request.id → ⊥) t ts all (sym same)))
    (no_later n ts (All-tail (λ t. n ≡ t.request.id → ⊥) t ts all))

in_time_more : (events : List Event) (e : Event) (time : ℕ) → IsNonDecreasingBy (λ (e : Event). e.time) events → All (λ e. e.time ≤ time) events → time ≤ e.time
    → IsNonDecreasingBy (λ (e : Event). e.time) (events ++ e ∷ [])
in_time_more events e time sorted all later =
    IsNonDecreasingBy-push (λ (e : Event). e.time) events e sorted
    (λ d some. let before : (get_or events (length events - 1) d).time ≤ time = all (length events - 1) d (omega arith) in omega arith)

times_more : (events : List Event) (e : Event) (time : ℕ) → All (λ e. e.time ≤ time) events → time ≤ e.time → All (λ x. x.time ≤ e.time) (events ++ e ∷ [])
times_more events e time all later =
    All-push (λ x. x.time ≤ e.time) events e (All-weaker (λ x. x.time ≤ time) (λ x. x.time ≤ e.time) (λ x before. omega arith) events all) (omega arith)

-- the outstanding request that an event is about, and what the events and this one tell
pub record IsChanged (events : List Event) (e : Event) (a : List Open) (x : Open) (b : List Open) : Type 0 where
  pub at : Split is_outstanding open_of (each_request events) a x b
  pub apart : All (λ y. at.item.request.id ≡ y.request.id → ⊥) at.after
  pub is : each_request (events ++ e ∷ []) ≡ at.before ++ with_event e at.item ∷ at.after

pub changed_at : (events : List Event) (ended : List Operation) (o : OutstandingValue) (e : Event) (a : List Open) (x : Open) (b : List Open)
    → Tells events ended o → o.requests ≡ a ++ x ∷ b → IsAbout x.id e → IsChanged events e a x b
changed_at events ended o e a x b tells has about =
    let s = split_at is_outstanding open_of (each_request events) a x b (sym tells.requests ∙ has) in
    let id : s.item.request.id ≡ x.id = ap (λ (o : Open). o.id) s.same in
    let after = pairs_item Parts s.before s.item s.after (subst (AllPairs Parts) s.is tells.last) in
    let apart : All (λ y. s.item.request.id ≡ y.request.id → ⊥) s.after = λ k d below same. after k d below s.passes same in
    let others : All (λ y. x.id ≡ y.request.id → ⊥) s.after = λ k d below same. apart k d below (id ∙ same) in
    record { at = s; apart = apart; is = told_at x.id e events s.before s.item s.after about s.is id (no_later x.id s.after others) }

-- the event is about an outstanding request
pub changed : (events : List Event) (ended : List Operation) (o : OutstandingValue) (e : Event) (a : List Open) (x : Open) (b left : List Open) (op : Option Operation)
    → Tells events ended o → o.requests ≡ a ++ x ∷ b → IsAbout x.id e → o.time ≤ e.time → IsEvent e
    → ((t : RequestEvents) → IsBy e.time t → IsAccepted t → is_outstanding t ≡ true → open_of t ≡ x → Leaves (with_event e t) left op × IsAccepted (with_event e t))
    → Tells (events ++ e ∷ []) (ended ++ option_to_list op) (record { requests = a ++ (left ++ b); time = e.time })
changed events ended o e a x b left op tells has about later is_event step =
    let there = changed_at events ended o e a x b tells has about in
    let s = there.at in
    let t = s.item in
    let is = there.is in
    let by = subst (All (IsBy e.time)) s.is (all_by e.time events (All-weaker (λ x. x.time ≤ o.time) (λ x. x.time ≤ e.time) (λ x before. omega arith) events tells.times)) in
    let accepted = subst (All IsAccepted) s.is tells.accepted in
    let last = subst (AllPairs Parts) s.is tells.last in
    let done = step t (all_item (IsBy e.time) s.before t s.after by) (all_item IsAccepted s.before t s.after accepted) s.passes s.same in
    let first = filter_map operation_of (filter (λ x. not (is_outstanding x)) s.before) in
    let rest = filter_map operation_of (filter (λ x. not (is_outstanding x)) s.after) in
    let ends : IsPermutation (first ++ rest) ended =
    subst (λ (l : List Operation). IsPermutation l ended)
    (ap (λ (l : List RequestEvents). filter_map operation_of (filter (λ x. not (is_outstanding x)) l)) s.is ∙ ended_middle (λ x. not (is_outstanding x)) operation_of s.before t s.after
    ∙ ap (λ (c : Bool). first ++ (filter_map operation_of (cond (not c) (t ∷ []) []) ++ rest)) s.passes) tells.ends in
    record {
      bounds = All-push IsEvent events e tells.bounds is_event;
      in_time = in_time_more events e o.time tells.in_time tells.times later;
      times = times_more events e o.time tells.times later;
      requests = sym (ap (λ (l : List RequestEvents). map open_of (filter is_outstanding l)) is ∙ kept_middle is_outstanding open_of s.before (with_event e t) s.after
          ∙ ap (λ (l : List Open). l ++ (map open_of (filter is_outstanding (with_event e t ∷ [])) ++ map open_of (filter is_outstanding s.after))) s.first
          ∙ ap (λ (l : List Open). a ++ (l ++ map open_of (filter is_outstanding s.after))) done.0.keeps
          ∙ ap (λ (l : List Open). a ++ (left ++ l)) s.rest);
      ends = subst (λ (l : List Operation). IsPermutation l (ended ++ option_to_list op))
          (sym (ap (λ (l : List RequestEvents). filter_map operation_of (filter (λ x. not (is_outstanding x)) l)) is
          ∙ ended_middle (λ x. not (is_outstanding x)) operation_of s.before (with_event e t) s.after ∙ ap (λ (l : List Operation). first ++ (l ++ rest)) done.0.ends))
          (middle_last first op rest ended ends);
      last = subst (AllPairs Parts) (sym is) (pairs_changed Parts s.before t (with_event e t) s.after last (λ z apart. apart) (λ k d below outstanding. there.apart k d below));
      accepted = subst (All IsAccepted) (sym is) (all_changed IsAccepted s.before t (with_event e t) s.after accepted done.1);
    }

-- no outstanding request has a number
not_open : (n : ℕ) (ts : List RequestEvents) → open_with n (map open_of (filter is_outstanding ts)) ≡ None → All (λ t. is_outstanding t ≡ true → t.request.id ≡ n → ⊥) ts
not_open n [] none = All-nil (λ t. is_outstanding t ≡ true → t.request.id ≡ n → ⊥)
not_open n (t ∷ ts) none =
    let parts = by_test (is_outstanding t) none in
    All-cons (λ t. is_outstanding t ≡ true → t.request.id ≡ n → ⊥) t ts parts.0 (not_open n ts parts.1)
  where
    by_number : (c : Bool) (rest : Option Open) → cond c (Some (open_of t)) rest ≡ None → (c ≡ false) × (rest ≡ None)
    by_number true rest none = cc
    by_number false rest none = (refl, none)

    by_test : (b : Bool) → open_with n (map open_of (cond b (t ∷ filter is_outstanding ts) (filter is_outstanding ts))) ≡ None
        → (b ≡ true → t.request.id ≡ n → ⊥) × (open_with n (map open_of (filter is_outstanding ts)) ≡ None)
    by_test true none =
        let parts = by_number (t.request.id == n) (open_with n (map open_of (filter is_outstanding ts))) none in
        (λ is same. true≢false (sym (eq-eqb t.request.id n same) ∙ parts.0), parts.1)
    by_test false none = (λ is same. true≢false (sym is), none)

-- the event is a request
pub started : (events : List Event) (ended : List Operation) (o : OutstandingValue) (time : ℕ) (r : Requested) → Tells events ended o → o.time ≤ time
    → IsEvent (record { time = time; kind = event_kind.Request r })
    → open_with r.id o.requests ≡ None
    → Tells (events ++ record { time = time; kind = event_kind.Request r } ∷ []) ended (record { requests = o.requests ++ opened time r ∷ []; time = time })
unfolding later_of
started events ended o time r tells later is_event none =
    let e : Event = record { time = time; kind = event_kind.Request r } in
    let is = told_request e r events refl (λ id. nothing (r.id == id)) in
    let leaves = request_leaves time r in
    record {
      bounds = All-push IsEvent events e tells.bounds is_event;
      in_time = in_time_more events e o.time tells.in_time tells.times later;
      times = times_more events e o.time tells.times later;
      requests = sym (ap (λ (l : List RequestEvents). map open_of (filter is_outstanding l)) is ∙ kept_middle is_outstanding open_of (each_request events) (new time r) []
          ∙ ap (λ (l : List Open). map open_of (filter is_outstanding (each_request events)) ++ (l ++ [])) leaves.keeps
          ∙ ap (λ (l : List Open). l ++ opened time r ∷ []) (sym tells.requests));
      ends = subst (λ (l : List Operation). IsPermutation l ended)
          (sym (ap (λ (l : List RequestEvents). filter_map operation_of (filter (λ x. not (is_outstanding x)) l)) is ∙ ended_middle (λ x. not (is_outstanding x)) operation_of (each_request events) (new time r) []
          ∙ ap (λ (l : List Operation). filter_map operation_of (filter (λ x. not (is_outstanding x)) (each_request events)) ++ (l ++ [])) leaves.ends
          ∙ append-nil (filter_map operation_of (filter (λ x. not (is_outstanding x)) (each_request events))))) tells.ends;
      last = subst (AllPairs Parts) (sym is) (all_pairs_push Parts (each_request events) (new time r) tells.last
          (not_open r.id (each_request events) (ap (open_with r.id) (sym tells.requests) ∙ none)));
      accepted = subst (All IsAccepted) (sym is) (All-push IsAccepted (each_request events) (new time r) tells.accepted (request_accepted time r));
    }
  where
    nothing : (b : Bool) → ◌≡◌ {A = List Event} (if b then [] else []) []
    nothing true = refl
    nothing false = refl

-- the event is about no request
pub passed : (events : List Event) (ended : List Operation) (o : OutstandingValue) (e : Event) → Tells events ended o → o.time ≤ e.time → IsEvent e
    → requested e.kind ≡ None → ((id : ℕ) → later_of id (e ∷ []) ≡ []) → Tells (events ++ e ∷ []) ended (record { requests = o.requests; time = e.time })
passed events ended o e tells later is_event no_request none =
    let is = told_none e events no_request none in
    record {
      bounds = All-push IsEvent events e tells.bounds is_event;
      in_time = in_time_more events e o.time tells.in_time tells.times later;
      times = times_more events e o.time tells.times later;
      requests = tells.requests ∙ ap (λ (l : List RequestEvents). map open_of (filter is_outstanding l)) (sym is);
      ends = subst (λ (l : List RequestEvents). IsPermutation (filter_map operation_of (filter (λ x. not (is_outstanding x)) l)) ended) (sym is) tells.ends;
      last = subst (AllPairs Parts) (sym is) tells.last;
      accepted = subst (All IsAccepted) (sym is) tells.accepted;
    }
