-- one event more of those that are read as a trace
use Rattle.std.proofs.Common.{◌≡◌, ℕ, ◌+◌, ◌<◌, List, [], ◌∷◌, ◌++◌, Option, None, Some, IfSome, append_assoc, filter_map, get_or, length, option_to_list, take, refl, sym, ap, subst, ◌∙◌}
use Rattle.std.specs.List.{cons_option}
use Rattle.std.specs.List.Sorted.{IsNonDecreasingBy, IsPermutation}
use Rattle.std.proofs.lemmas.List.{get_or_default, take_more}
use Rattle.std.proofs.lemmas.List.Elements.{filter_map-append}
use Rattle.std.proofs.lemmas.List.Sorted.{IsPermutation-append_left, IsPermutation-refl, IsPermutation-trans}
use Rattle.chi_fields.specs.declared.refusal.Refusal.{Refusal}
use Rattle.chi_trace.specs.declared.operation.Operation.{Operation}
use Rattle.chi_trace.specs.Explains.{IsTrace, nothing}
use Rattle.chi_trace.proofs.Traced.{IsTrace-sorted, observed_below}
use Rattle.chi_events.specs.declared.event.Event.{Event}
use Rattle.chi_events.specs.EventLaws.{OperationsAreTold}
use Rattle.chi_events.specs.Operations.{operations, refusals_told}
use Rattle.chi_events.specs.Outstanding.{OutstandingValue, Tells, open_operation}
use Rattle.chi_events.specs.RequestEvents.{each_request}
use Rattle.chi_events.specs.declared.outstanding.Open.{Open}
use Rattle.chi_watch_text.specs.Lines.{AreTold}
use Rattle.chi_watch_text.specs.Operations.{AreInOrder, AreOperations, AreRefusals, IsNotNext, IsOperationsFault, IsTakingFault}
use Rattle.chi_watch_text.specs.Reading.{FailsNext, GivesNext, HasGiven, HasGivenOf, IsOfLast}
use Rattle.chi_watch_text.proofs.Readings.{all_told}
use Rattle.chi_watch_text.specs.declared.fault.LinesFault.{LinesFault}
use Rattle.chi_watch_text.specs.declared.fault.LinesFault.TheVariants as fault
use Rattle.chi_watch_text.specs.declared.reading.Reading.{Reading}

-- by the events that the reading has given these operations had ended and requests were refused for these reasons, and the rest follows
pub record AreRead (text : List ℕ) (ended : List Operation) (refusals : List Refusal) (o : OutstandingValue) (r : Reading) (rest : List ℕ) : Type 0 where
  pub events : List Event
  pub given : HasGiven text events r rest
  pub tells : Tells events ended o
  pub refused : IsPermutation (refusals_told events) refusals

-- the same of a text that may not be known
abbrev pub HasRead : Option (List ℕ) → List Operation → List Refusal → OutstandingValue → Reading → Option (List ℕ) → Type 0
HasRead None ended refusals o r rest = Unit {0}
HasRead (Some text) ended refusals o r None = ⊥
HasRead (Some text) ended refusals o r (Some rest) = AreRead text ended refusals o r rest

-- nothing was read
pub none_read : (start : Option (List ℕ)) (o : OutstandingValue) (r : Reading) (ended : List Operation) (refusals : List Refusal) → Tells [] [] o → HasGivenOf start [] r start → ended ≡ []
    → refusals ≡ [] → HasRead start ended refusals o r start
unfolding each_request
none_read None o r ended refusals tells given none no_refusals = tt
none_read (Some text) o r ended refusals tells given none no_refusals = record {
  events = [];
  given = given;
  tells = subst (λ (l : List Operation). Tells [] l o) (sym none) tells;
  refused = subst (λ (l : List Refusal). IsPermutation [] l) (sym no_refusals) (IsPermutation-refl []);
}

-- one event more
pub read_more : (start now later : Option (List ℕ)) (before after : List Operation) (refused refused_now : List Refusal) (old new : OutstandingValue) (r s : Reading) (e : Event)
    (ended : Option Operation) (reason : Option Refusal) → HasRead start before refused old r now → GivesNext start r now (Some e) s later
    → ((events : List Event) (past : List Operation) → Tells events past old → Tells (events ++ e ∷ []) (past ++ option_to_list ended) new)
    → ((events : List Event) (past : List Operation) → Tells events past old
    → IsPermutation (refusals_told (events ++ e ∷ [])) (refusals_told events ++ option_to_list reason))
    → after ≡ before ++ option_to_list ended → refused_now ≡ refused ++ option_to_list reason → HasRead start after refused_now new s later
read_more None now later before after refused refused_now old new r s e ended reason has gives takes refuses is are = tt
read_more (Some text) None later before after refused refused_now old new r s e ended reason has gives takes refuses is are = absurd has
read_more (Some text) (Some rest) later before after refused refused_now old new r s e ended reason has gives takes refuses is are = by_rest later (gives has.events has.given).0
  where
    by_rest : (left : Option (List ℕ)) → HasGivenOf (Some text) (has.events ++ e ∷ []) s left → HasRead (Some text) after refused_now new s left
    by_rest None given = absurd given
    by_rest (Some left) given = record {
      events = has.events ++ e ∷ [];
      given = given;
      tells = subst (λ (l : List Operation). Tells (has.events ++ e ∷ []) l new) (sym is) (takes has.events before has.tells);
      refused = subst (IsPermutation (refusals_told (has.events ++ e ∷ []))) (sym are)
          (IsPermutation-trans (refusals_told (has.events ++ e ∷ [])) (refusals_told has.events ++ option_to_list reason) (refused ++ option_to_list reason)
          (refuses has.events before has.tells) (IsPermutation-append_left (option_to_list reason) (refusals_told has.events) refused has.refused));
    }

-- the text is at its end
pub all_read : (start now later : Option (List ℕ)) (ended ops : List Operation) (refusals : List Refusal) (o : OutstandingValue) (r s : Reading) → HasRead start ended refusals o r now
    → GivesNext start r now None s later → ((events : List Event) → Tells events ended o → AreInOrder events ops) → IfSome start (λ text. AreOperations r.format text ops)
all_read None now later ended ops refusals o r s has gives order = tt
all_read (Some text) None later ended ops refusals o r s has gives order = absurd has
all_read (Some text) (Some rest) later ended ops refusals o r s has gives order = (has.events, all_told r.format text has.events s (gives has.events has.given), order has.events has.tells)

pub all_refused : (start now later : Option (List ℕ)) (ended : List Operation) (refusals : List Refusal) (o : OutstandingValue) (r s : Reading) → HasRead start ended refusals o r now
    → GivesNext start r now None s later → IfSome start (λ text. AreRefusals r.format text refusals)
all_refused None now later ended refusals o r s has gives = tt
all_refused (Some text) None later ended refusals o r s has gives = absurd has
all_refused (Some text) (Some rest) later ended refusals o r s has gives = (has.events, all_told r.format text has.events s (gives has.events has.given), has.refused)

-- a line tells nothing
pub line_refused : (start now : Option (List ℕ)) (ended : List Operation) (refusals : List Refusal) (o : OutstandingValue) (r s : Reading) (f : LinesFault) → HasRead start ended refusals o r now
    → FailsNext start r now s f → IfSome start (λ text. IsOperationsFault r.format text f)
line_refused None now ended refusals o r s f has fails = tt
line_refused (Some text) None ended refusals o r s f has fails = absurd has
line_refused (Some text) (Some rest) ended refusals o r s fault.Read has fails = tt
line_refused (Some text) (Some rest) ended refusals o r s (fault.Line n f) has fails = (has.events, (fails has.events has.given).0)
line_refused (Some text) (Some rest) ended refusals o r s (fault.Event n f) has fails = absurd (fails has.events has.given).0
line_refused (Some text) (Some rest) ended refusals o r s fault.TooManyLines has fails = tt
line_refused (Some text) (Some rest) ended refusals o r s fault.Write has fails = absurd (fails has.events has.given).0
line_refused (Some text) (Some rest) ended refusals o r s fault.Memory has fails = tt

-- or an event cannot come next
pub event_refused : (start now later : Option (List ℕ)) (ended : List Operation) (refusals : List Refusal) (o : OutstandingValue) (r s : Reading) (e : Event) (f : LinesFault)
    → HasRead start ended refusals o r now → GivesNext start r now (Some e) s later → IsTakingFault o e s.number f → IfSome start (λ text. IsOperationsFault s.format text f)
event_refused None now later ended refusals o r s e f has gives is = tt
event_refused (Some text) None later ended refusals o r s e f has gives is = absurd has
event_refused (Some text) (Some rest) later ended refusals o r s e fault.Read has gives is = absurd is
event_refused (Some text) (Some rest) later ended refusals o r s e (fault.Line n f) has gives is = absurd is
event_refused (Some text) (Some rest) later ended refusals o r s e (fault.Event n f) has gives (same, refused) = by_rest later (gives has.events has.given).1
  where
    by_rest : (left : Option (List ℕ)) → IsOfLast (Some text) has.events e s left → IsNotNext s.format text n f
    by_rest None last = absurd last
    by_rest (Some left) last =
        (has.events, e, s.pending.items, left, subst (λ (k : ℕ). AreTold s.format text k has.events (e ∷ s.pending.items) left) (sym same) last, (ended, o, has.tells, refused))
event_refused (Some text) (Some rest) later ended refusals o r s e fault.TooManyLines has gives is = absurd is
event_refused (Some text) (Some rest) later ended refusals o r s e fault.Write has gives is = absurd is
event_refused (Some text) (Some rest) later ended refusals o r s e fault.Memory has gives is = tt

-- operations of a trace are one in every order of their starts
sorted_trace : (each_request ops : List Operation) → IsTrace each_request → IsPermutation each_request ops → IsNonDecreasingBy (λ (op : Operation). op.start) ops → IsTrace ops
sorted_trace each_request ops trace = IsTrace-sorted each_request ops (λ k d under. rw (get_or_default each_request k d nothing under) (observed_below each_request k trace under))

-- those that had ended and those that are open, once they are sorted
pub all_in_order : OperationsAreTold → (events : List Event) (ended all ops : List Operation) (o : OutstandingValue) → Tells events ended o
    → all ≡ ended ++ filter_map open_operation o.requests → IsPermutation all ops → IsNonDecreasingBy (λ (op : Operation). op.start) ops → AreInOrder events ops
all_in_order law events ended all ops o tells is moved up =
    let same : IsPermutation (operations events) ops =
    IsPermutation-trans (operations events) all ops (subst (IsPermutation (operations events)) (sym is) (law events ended o tells).1) moved in
    record { trace = sorted_trace (operations events) ops (law events ended o tells).0 same up; same = same }

-- the operation of one outstanding request more, where it has one
pub open_more : (requests : List Open) (i : ℕ) (d : Open) (start before after : List Operation) → i < length requests → open_operation d ≡ open_operation (get_or requests i d)
    → before ≡ start ++ filter_map open_operation (take i requests) → after ≡ before ++ option_to_list (open_operation d)
    → after ≡ start ++ filter_map open_operation (take (i + 1) requests)
open_more requests i d start before after below same was is =
    let done = filter_map open_operation (take i requests) in
    is ∙ (ap (λ l. l ++ option_to_list (open_operation d)) was ∙ (append_assoc start done (option_to_list (open_operation d))
    ∙ ap (λ l. start ++ l) (ap (λ l. done ++ l) (ap option_to_list same ∙ one (open_operation (get_or requests i d)))
    ∙ (sym (filter_map-append open_operation (take i requests) (get_or requests i d ∷ [])) ∙ ap (filter_map open_operation) (sym (take_more requests i d below))))))
  where
    one : (o : Option Operation) → option_to_list o ≡ cons_option o []
    one None = refl
    one (Some op) = refl
