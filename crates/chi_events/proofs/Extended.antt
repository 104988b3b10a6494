-- what is told of each request, with one event more
use Rattle.std.specs.Prelude.{◌==◌, if◌then◌else◌}
use Rattle.std.proofs.Common.{◌≡◌, ℕ, Bool, true, false, ◌||◌, List, [], ◌∷◌, ◌++◌, Option, Some, None, append-nil, refl, sym, ap, ◌∙◌, eq-eqb, ne_eqb}
use Rattle.std.specs.List.{list_any}
use Rattle.std.proofs.lemmas.Bool.{or_left, or_parts, or_right, true≢false}
use Rattle.chi_events.specs.declared.event.Event.{Event}
use Rattle.chi_events.specs.declared.event.Requested.{Requested}
use Rattle.chi_events.specs.RequestEvents.{RequestEvents, each_request, has_number, is_about, is_request_of, later_of, request_events, requested}

-- a request of this number is told
abbrev pub has_id : ℕ → List RequestEvents → Bool
has_id id ts = list_any (λ t. t.request.id == id) ts

-- what is told of a request with one event more, unless a later request has its number
abbrev pub more_unless : Bool → Event → RequestEvents → RequestEvents
more_unless true e t = t
more_unless false e t = record t { later = t.later ++ later_of t.request.id (e ∷ []) }

abbrev pub extended : Event → List RequestEvents → List RequestEvents
extended e [] = []
extended e (t ∷ ts) = more_unless (has_id t.request.id ts) e t ∷ extended e ts

-- one list, and another unless a request came before it
abbrev joined : Bool → List Event → List Event → List Event
joined true first rest = first
joined false first rest = first ++ rest

later_by : (b c h : Bool) (x : Event) (l m n : List Event) → l ≡ joined h m n
    → (if b then [] else if c then x ∷ l else l) ≡ joined (b || h) (if b then [] else if c then x ∷ m else m) n
later_by true c h x l m n e = refl
later_by false true true x l m n e = ap (λ r. x ∷ r) e
later_by false true false x l m n e = ap (λ r. x ∷ r) e
later_by false false h x l m n e = e

later_more : (id : ℕ) (e : Event) (events : List Event) → later_of id (events ++ e ∷ []) ≡ joined (list_any (is_request_of id) events) (later_of id events) (later_of id (e ∷ []))
unfolding later_of
later_more id e [] = refl
later_more id e (x ∷ xs) =
    later_by (is_request_of id x) (is_about id x) (list_any (is_request_of id) xs) x (later_of id (xs ++ e ∷ [])) (later_of id xs) (later_of id (e ∷ [])) (later_more id e xs)

has_told : (id : ℕ) (events : List Event) → has_id id (each_request events) ≡ list_any (is_request_of id) events
unfolding each_request
has_told id [] = refl
has_told id (x ∷ xs) = by_request (requested x.kind) (has_told id xs)
  where
    by_request : (q : Option Requested) → has_id id (each_request xs) ≡ list_any (is_request_of id) xs
        → has_id id (request_events x.time q xs ++ each_request xs) ≡ (has_number id q || list_any (is_request_of id) xs)
    by_request None same = same
    by_request (Some r) same = ap (λ b. (r.id == id) || b) same

told_more : (e : Event) (events : List Event) → each_request (events ++ e ∷ []) ≡ extended e (each_request events) ++ request_events e.time (requested e.kind) []
unfolding each_request
told_more e [] = append-nil (request_events e.time (requested e.kind) [])
told_more e (x ∷ xs) = by_request (requested x.kind) (told_more e xs)
  where
    head : (r : Requested) (b : Bool) → ◌≡◌ {A = RequestEvents} (record { time = x.time; request = r; later = joined b (later_of r.id xs) (later_of r.id (e ∷ [])) })
        (more_unless b e (record { time = x.time; request = r; later = later_of r.id xs }))
    head r true = refl
    head r false = refl

    by_request : (q : Option Requested) → each_request (xs ++ e ∷ []) ≡ extended e (each_request xs) ++ request_events e.time (requested e.kind) []
        → request_events x.time q (xs ++ e ∷ []) ++ each_request (xs ++ e ∷ []) ≡ extended e (request_events x.time q xs ++ each_request xs) ++ request_events e.time (requested e.kind) []
    by_request None same = same
    by_request (Some r) same =
        let rest : List RequestEvents = extended e (each_request xs) ++ request_events e.time (requested e.kind) [] in
        let old : RequestEvents = record { time = x.time; request = r; later = later_of r.id xs } in
        let told_with : List Event → RequestEvents = λ later. record { time = x.time; request = r; later = later } in
        ap (λ (l : List RequestEvents). told_with (later_of r.id (xs ++ e ∷ [])) ∷ l) same
        ∙ ap (λ (l : List Event). told_with l ∷ rest) (later_more r.id e xs)
        ∙ ap (λ (t : RequestEvents). t ∷ rest) (head r (list_any (is_request_of r.id) xs))
        ∙ ap (λ b. more_unless b e old ∷ rest) (sym (has_told r.id xs))

-- an event that is about no request changes nothing
same_more : (b : Bool) (e : Event) (t : RequestEvents) → later_of t.request.id (e ∷ []) ≡ [] → more_unless b e t ≡ t
same_more true e t none = refl
same_more false e t none = ap (λ (l : List Event). record t { later = l }) (ap (λ l. t.later ++ l) none ∙ append-nil t.later)

pub extended_none : (e : Event) → ((id : ℕ) → later_of id (e ∷ []) ≡ []) → (ts : List RequestEvents) → extended e ts ≡ ts
extended_none e none [] = refl
extended_none e none (t ∷ ts) = ap (λ (x : RequestEvents). x ∷ extended e ts) (same_more (has_id t.request.id ts) e t (none t.request.id)) ∙ ap (λ (l : List RequestEvents). t ∷ l) (extended_none e none ts)

-- the event is about the request of this number
pub record IsAbout (id : ℕ) (e : Event) : Type 0 where
  pub no_request : requested e.kind ≡ None
  pub about : (other : ℕ) → later_of other (e ∷ []) ≡ (if id == other then e ∷ [] else [])

abbrev pub with_event : Event → RequestEvents → RequestEvents
with_event e t = record t { later = t.later ++ e ∷ [] }

-- that of other requests does not change
extended_others : (n : ℕ) (e : Event) (ts : List RequestEvents) → IsAbout n e → has_id n ts ≡ false → extended e ts ≡ ts
extended_others n e [] about none = refl
extended_others n e (t ∷ ts) about none =
    let parts = or_parts (t.request.id == n) (has_id n ts) none in
    let other : (n == t.request.id) ≡ false = ne_eqb n t.request.id (λ same. true≢false (sym (eq-eqb t.request.id n (sym same)) ∙ parts.0)) in
    ap (λ (x : RequestEvents). x ∷ extended e ts) (same_more (has_id t.request.id ts) e t (about.about t.request.id ∙ ap (λ b. if b then e ∷ [] else []) other))
    ∙ ap (λ (l : List RequestEvents). t ∷ l) (extended_others n e ts about parts.1)

-- the last request of the number takes the event
last_more : (b : Bool) (e : Event) (t : RequestEvents) → b ≡ false → later_of t.request.id (e ∷ []) ≡ e ∷ [] → more_unless b e t ≡ with_event e t
last_more true e t not_later is = absurd (true≢false not_later)
last_more false e t not_later is = ap (λ (l : List Event). record t { later = t.later ++ l }) is

first_more : (n : ℕ) (e : Event) (x : RequestEvents) (ts : List RequestEvents) → IsAbout n e → has_id n ts ≡ true → (b : Bool) → b ≡ has_id x.request.id ts → more_unless b e x ≡ x
first_more n e x ts about has true is = refl
first_more n e x ts about has false is =
    let other : (n == x.request.id) ≡ false = ne_eqb n x.request.id (λ same. true≢false (sym has ∙ ap (λ id. has_id id ts) same ∙ sym is)) in
    same_more false e x (about.about x.request.id ∙ ap (λ b. if b then e ∷ [] else []) other)

has_middle : (n : ℕ) (before : List RequestEvents) (t : RequestEvents) (after : List RequestEvents) → t.request.id ≡ n → has_id n (before ++ t ∷ after) ≡ true
has_middle n [] t after same = or_left (t.request.id == n) (has_id n after) (eq-eqb t.request.id n same)
has_middle n (x ∷ xs) t after same = or_right (x.request.id == n) (has_id n (xs ++ t ∷ after)) (has_middle n xs t after same)

extended_at : (n : ℕ) (e : Event) (before : List RequestEvents) (t : RequestEvents) (after : List RequestEvents) → IsAbout n e → t.request.id ≡ n → has_id n after ≡ false
    → extended e (before ++ t ∷ after) ≡ before ++ with_event e t ∷ after
extended_at n e [] t after about same none =
    ap (λ (x : RequestEvents). x ∷ extended e after) (last_more (has_id t.request.id after) e t (ap (λ id. has_id id after) same ∙ none)
    (about.about t.request.id ∙ ap (λ b. if b then e ∷ [] else []) (eq-eqb n t.request.id (sym same))))
    ∙ ap (λ (l : List RequestEvents). with_event e t ∷ l) (extended_others n e after about none)
extended_at n e (x ∷ xs) t after about same none =
    let all : List RequestEvents = xs ++ t ∷ after in
    ap (λ (y : RequestEvents). y ∷ extended e all) (first_more n e x all about (has_middle n xs t after same) (has_id x.request.id all) refl)
    ∙ ap (λ (l : List RequestEvents). x ∷ l) (extended_at n e xs t after about same none)

-- what the events and one more tell, where the one is about the last request of a number
pub told_at : (n : ℕ) (e : Event) (events : List Event) (before : List RequestEvents) (t : RequestEvents) (after : List RequestEvents) → IsAbout n e → each_request events ≡ before ++ t ∷ after
    → t.request.id ≡ n → has_id n after ≡ false → each_request (events ++ e ∷ []) ≡ before ++ with_event e t ∷ after
told_at n e events before t after about is same none =
    told_more e events ∙ ap (λ q. extended e (each_request events) ++ request_events e.time q []) about.no_request ∙ append-nil (extended e (each_request events))
    ∙ ap (extended e) is ∙ extended_at n e before t after about same none

-- where it is a request
pub told_request : (e : Event) (r : Requested) (events : List Event) → requested e.kind ≡ Some r → ((id : ℕ) → later_of id (e ∷ []) ≡ [])
    → each_request (events ++ e ∷ []) ≡ each_request events ++ record { time = e.time; request = r; later = [] } ∷ []
unfolding later_of
told_request e r events is none =
    told_more e events ∙ ap (λ q. extended e (each_request events) ++ request_events e.time q []) is
    ∙ ap (λ (l : List RequestEvents). l ++ record { time = e.time; request = r; later = [] } ∷ []) (extended_none e none (each_request events))

-- where it is about no request
pub told_none : (e : Event) (events : List Event) → requested e.kind ≡ None → ((id : ℕ) → later_of id (e ∷ []) ≡ []) → each_request (events ++ e ∷ []) ≡ each_request events
told_none e events is none =
    told_more e events ∙ ap (λ q. extended e (each_request events) ++ request_events e.time q []) is ∙ append-nil (extended e (each_request events)) ∙ extended_none e none (each_request events)
