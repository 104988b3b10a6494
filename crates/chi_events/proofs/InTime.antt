-- operations stand in the order in which their requests were taken
use Rattle.std.proofs.Common.{◌≡◌, ℕ, suc, ◌≤◌, Bool, true, false, if◌then◌else◌, List, [], ◌∷◌, ◌++◌, All, Option, Some, None, IfSome, refl, subst, sym, arith}
use Rattle.std.specs.Prelude.{filter_map}
use Rattle.std.specs.List.Sorted.{IsNonDecreasingBy}
use Rattle.std.proofs.lemmas.List.Elements.{All-cons, All-head, All-nil, All-tail}
use Rattle.chi_trace.specs.Explains.{IsOperation, IsTrace}
use Rattle.chi_trace.specs.declared.operation.Operation.{Operation}
use Rattle.chi_events.specs.declared.event.Event.{Event}
use Rattle.chi_events.specs.declared.event.EventKind.{EventKind}
use Rattle.chi_events.specs.declared.event.EventKind.TheVariants.{Request, Data, Reply, Dropped, Refused, Word, Final, Unknown, End}
use Rattle.chi_events.specs.declared.event.Requested.{Requested}
use Rattle.chi_events.specs.Operations.{operation_of, operations}
use Rattle.chi_trace.specs.RequestFields.{IsPacket}
use Rattle.chi_events.specs.Outstanding.{HasPacket, IsEvent}
use Rattle.chi_events.specs.RequestEvents.{RequestEvents, each_request, is_about, is_request_of, later_of, request_events, requested}
use Rattle.chi_events.proofs.Observable.{IsAfter, IsTold, operation_observed, operation_start}

-- what is true of each event is true of what is told of a request
later_kept : (P : Event → Type 0) (id : ℕ) (events : List Event) → All P events → All P (later_of id events)
unfolding later_of
later_kept P id [] all = All-nil P
later_kept P id (e ∷ events) all = by_tests (is_request_of id e) (is_about id e) (later_kept P id events (All-tail P e events all))
  where
    by_tests : (ends about : Bool) → All P (later_of id events) → All P (if ends then [] else if about then e ∷ later_of id events else later_of id events)
    by_tests true about rest = All-nil P
    by_tests false true rest = All-cons P e (later_of id events) (All-head P e events all) rest
    by_tests false false rest = rest

-- a request's data packet is one
requested_packet : (kind : EventKind) → HasPacket kind → IfSome (requested kind) (λ r. IsPacket r.fields.be r.fields.lanes)
requested_packet (Request r) has = has
requested_packet (Data p) has = tt
requested_packet (Reply c) has = tt
requested_packet (Dropped id) has = tt
requested_packet (Refused id reason) has = tt
requested_packet (Word w) has = tt
requested_packet (Final w) has = tt
requested_packet (Unknown addr len) has = tt
requested_packet End has = tt

-- no operation starts before the first event
start_after : (time : ℕ) (events : List Event) → All (λ e. time ≤ e.time) events → All (λ op. time ≤ op.start) (operations events)
unfolding each_request
start_after time [] all = All-nil (λ (op : Operation). time ≤ op.start)
start_after time (e ∷ events) all = by_request (requested e.kind) (start_after time events (All-tail (λ (x : Event). time ≤ x.time) e events all))
  where
    Starts : List Operation → Type 0
    Starts ops = All (λ op. time ≤ op.start) ops

    by_operation : (t : RequestEvents) (o : Option Operation) → operation_of t ≡ o → IfSome o (λ op. op.start ≡ e.time) → Starts (operations events)
        → Starts (filter_map operation_of (t ∷ each_request events))
    by_operation t (Some op) is start rest =
        let first : time ≤ e.time = All-head (λ (x : Event). time ≤ x.time) e events all in
        rw is (All-cons (λ (x : Operation). time ≤ x.start) op (operations events) (omega (arith, first, start)) rest)
    by_operation t None is start rest = rw is rest

    by_request : (o : Option Requested) → Starts (operations events) → Starts (filter_map operation_of (request_events e.time o events ++ each_request events))
    by_request (Some r) rest =
        let t : RequestEvents = record { time = e.time; request = r; later = later_of r.id events } in
        by_operation t (operation_of t) refl (operation_start t) rest
    by_request None rest = rest

pub operations_trace : (events : List Event) → All IsEvent events → IsNonDecreasingBy (λ (e : Event). e.time) events → IsTrace (operations events)
unfolding each_request IsTrace
operations_trace [] all up = tt
operations_trace (e ∷ events) all up =
    by_request (requested e.kind) (requested_packet e.kind own.packet)
    (operations_trace events (All-tail IsEvent e events all) (λ i j d le below. up (suc i) (suc j) d (omega arith) (omega arith)))
  where
    own : IsEvent e
    own = All-head IsEvent e events all

    after : All (λ x. e.time ≤ x.time) events
    after i d below = up 0 (suc i) d (omega arith) (omega arith)

    follow : All (IsAfter e.time) events
    follow i d below = record { later = after i d below; packet = (all (suc i) d (omega arith)).packet }

    by_operation : (t : RequestEvents) (o : Option Operation) → operation_of t ≡ o → IfSome o (λ op. op.start ≡ e.time) → IfSome o IsOperation → IsTrace (operations events)
        → IsTrace (filter_map operation_of (t ∷ each_request events))
    by_operation t (Some op) is start observed rest =
        rw is (observed, subst (λ n. All (λ (x : Operation). n ≤ x.start) (operations events)) (sym start) (start_after e.time events after), rest)
    by_operation t None is start observed rest = rw is rest

    by_request : (o : Option Requested) → IfSome o (λ r. IsPacket r.fields.be r.fields.lanes) → IsTrace (operations events)
        → IsTrace (filter_map operation_of (request_events e.time o events ++ each_request events))
    by_request (Some r) packet rest =
        let t : RequestEvents = record { time = e.time; request = r; later = later_of r.id events } in
        let is : IsTold t = record { time = own.time; packet = packet; later = later_kept (IsAfter e.time) r.id events follow } in
        by_operation t (operation_of t) refl (operation_start t) (operation_observed t is) rest
    by_request None packet rest = rest
