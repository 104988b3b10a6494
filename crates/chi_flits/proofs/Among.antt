-- the events that flits tell are accepted among others, too
use Rattle.std.specs.Prelude.{◌⊎◌, filter}
use Rattle.std.specs.List.Sorted.{IsNonDecreasingBy}
use Rattle.std.proofs.Common.{◌≡◌, ℕ, suc, ◌≤◌, cond, List, [], ◌∷◌, All, refl, sym, subst, arith}
use Rattle.std.proofs.lemmas.List.Elements.{All-head, All-tail}
use Rattle.chi_events.specs.declared.event.Event.{Event}
use Rattle.chi_events.specs.declared.event.EventKind.{EventKind}
use Rattle.chi_events.specs.declared.event.EventKind.TheVariants as event
use Rattle.chi_events.specs.declared.outstanding.Open.{Open}
use Rattle.chi_events.specs.Outstanding.{HasWord, IsEvent, open_with}
use Rattle.chi_flits.specs.Accepted.{AreAccepted, AreRefused, AreToldAmong, CanBeTaken, is_of_request}
use Rattle.chi_flits.specs.declared.flit.Flit.{Flit}
use Rattle.chi_flits.specs.Told.{events_told}
use Rattle.chi_flits.proofs.Accepted.{comes_to, reaches_none}
use Rattle.chi_flits.proofs.InTurn.{InOrder, ReadyInTurn, come_in_turn, judged}
use Rattle.chi_flits.proofs.Ready.{Ready, at, effect, number_in}

-- the events of requests
abbrev of_requests : List Event → List Event
of_requests events = filter (λ e. is_of_request e.kind) events

-- an event of no request asks for nothing, and does nothing
one_apart : (time : ℕ) (k : EventKind) (rest : List Event) (l : List Open) → Ready k (open_with (number_in k) l) → ReadyInTurn rest (effect time k l)
    → ReadyInTurn (cond (is_of_request k) (at time k ∷ rest) rest) l
one_apart time (event.Request r) rest l ready later = (ready, later)
one_apart time (event.Data p) rest l ready later = (ready, later)
one_apart time (event.Reply c) rest l ready later = (ready, later)
one_apart time (event.Dropped id) rest l ready later = (ready, later)
one_apart time (event.Refused id reason) rest l ready later = absurd ready
one_apart time (event.Word w) rest l ready later = later
one_apart time (event.Final w) rest l ready later = later
one_apart time (event.Unknown addr len) rest l ready later = later
one_apart time event.End rest l ready later = later

apart : (events : List Event) (l : List Open) → ReadyInTurn events l → ReadyInTurn (of_requests events) l
apart [] l ready = tt
apart (e ∷ events) l ready = one_apart e.time e.kind (of_requests events) l ready.0 (apart events (effect e.time e.kind l) ready.1)

one_between : (time : ℕ) (k : EventKind) (rest events : List Event) (l : List Open) → HasWord k → ReadyInTurn (cond (is_of_request k) (at time k ∷ rest) rest) l
    → ((after : List Open) → ReadyInTurn rest after → ReadyInTurn events after) → ReadyInTurn (at time k ∷ events) l
one_between time (event.Request r) rest events l word ready later = (ready.0, later (effect time (event.Request r) l) ready.1)
one_between time (event.Data p) rest events l word ready later = (ready.0, later (effect time (event.Data p) l) ready.1)
one_between time (event.Reply c) rest events l word ready later = (ready.0, later (effect time (event.Reply c) l) ready.1)
one_between time (event.Dropped id) rest events l word ready later = (ready.0, later (effect time (event.Dropped id) l) ready.1)
one_between time (event.Refused id reason) rest events l word ready later = absurd ready.0
one_between time (event.Word w) rest events l word ready later = (word, later l ready)
one_between time (event.Final w) rest events l word ready later = (word, later l ready)
one_between time (event.Unknown addr len) rest events l word ready later = (tt, later l ready)
one_between time event.End rest events l word ready later = (tt, later l ready)

between : (events : List Event) (l : List Open) → All IsEvent events → ReadyInTurn (of_requests events) l → ReadyInTurn events l
between [] l bounds ready = tt
between (e ∷ events) l bounds ready =
    one_between e.time e.kind (of_requests events) events l (All-head IsEvent e events bounds).word ready (λ after more. between events after (All-tail IsEvent e events bounds) more)

-- events in the order of their times
ordered : (events : List Event) (time : ℕ) → All IsEvent events → IsNonDecreasingBy (λ (e : Event). e.time) events → ((e : Event) (rest : List Event) → events ≡ e ∷ rest → time ≤ e.time) → InOrder time events
ordered [] time bounds up first = tt
ordered (e ∷ events) time bounds up first = (
  first e events refl,
  (All-head IsEvent e events bounds).time,
  ordered events e.time (All-tail IsEvent e events bounds) (λ i j d le below. up (suc i) (suc j) d (omega arith) (omega arith)) next_later,
)
  where
    next_later : (next : Event) (rest : List Event) → events ≡ next ∷ rest → e.time ≤ next.time
    next_later next rest is = (subst (λ (l : List Event). IsNonDecreasingBy (λ (e : Event). e.time) (e ∷ l)) is up) 0 1 e (omega arith) (omega arith)

pub accepted_among : (flits : List Flit) (events : List Event) → CanBeTaken flits → AreToldAmong flits events → AreAccepted events ⊎ AreRefused events
accepted_among flits events can among =
    let ready = apart (events_told flits) [] (comes_to flits can).ready in
    judged events (come_in_turn events [] [] 0 reaches_none (ordered events 0 among.bounds among.in_time (λ e rest is. omega arith))
    (between events [] among.bounds (subst (λ (l : List Event). ReadyInTurn l []) (sym among.told) ready)))
