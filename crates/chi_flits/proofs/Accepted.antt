-- the events of flits are accepted, flit by flit
use Rattle.std.specs.Prelude.{◌<◌, ◌^◌, ◌⊎◌, if◌then◌else◌, nat_le, nat_lt}
use Rattle.std.proofs.Common.{◌≡◌, ℕ, suc, ◌+◌, ◌*◌, ◌≤◌, List, [], ◌∷◌, All, length, Option, Some, None, refl, sym, subst, ◌∙◌, arith}
use Rattle.std.proofs.lemmas.Bool.{leb-false, ltb-false}
use Rattle.std.proofs.lemmas.List.Elements.{All-nil}
use Rattle.std.proofs.lemmas.List.Sorted.{IsPermutation-refl}
use Rattle.std.proofs.lemmas.Option.{none-some}
use Rattle.chi_events.specs.declared.event.Event.{Event}
use Rattle.chi_events.specs.declared.outstanding.Open.{Open}
use Rattle.chi_events.specs.Outstanding.{IsAccepted, IsEvent}
use Rattle.chi_events.specs.RequestEvents.{each_request}
use Rattle.chi_flits.specs.Accepted.{AreAccepted, AreRefused, CanBeTaken, HasChunks}
use Rattle.chi_flits.specs.declared.fault.FlitFault.TheVariants as fault
use Rattle.chi_flits.specs.declared.flit.Flit.{Flit}
use Rattle.chi_flits.specs.declared.flit.FlitKind.{FlitKind}
use Rattle.chi_flits.specs.declared.flit.FlitKind.TheVariants as kind
use Rattle.chi_flits.specs.declared.flit.RequestFlit.{RequestFlit}
use Rattle.chi_flits.specs.declared.transaction.Transaction.{Transaction}
use Rattle.chi_flits.specs.declared.transfer.Transfer.{Transfer}
use Rattle.chi_flits.specs.Faults.{fault_by, fault_with, last_time}
use Rattle.chi_flits.specs.History.{given, taken, transaction, transfer}
use Rattle.chi_flits.specs.Told.{events_told, told_by, told_with}
use Rattle.chi_flits.proofs.AfterRead.{read_steps}
use Rattle.chi_flits.proofs.AfterRequest.{request_steps}
use Rattle.chi_flits.proofs.AfterResponse.{response_steps}
use Rattle.chi_flits.proofs.AfterWrite.{write_steps}
use Rattle.chi_flits.proofs.Fits.{no_fault}
use Rattle.chi_flits.proofs.Known.{IsKnown, Knowledge, requests_after}
use Rattle.chi_flits.proofs.KnownAfter.{known_after}
use Rattle.chi_flits.proofs.Steps.{transaction_more, transfer_more}
use Rattle.chi_flits.proofs.InTurn.{AreBy, InOrder, Reaches, ReadyInTurn, by_later, by_more, come_in_turn, effects_more, effects_of, judged, order_more, ready_more}
use Rattle.chi_flits.proofs.Ready.{effects}
use Rattle.chi_flits.proofs.Waiting.{GoesOn, InStep, State}

-- the request at each place among the flits
abbrev pub requests_in : List Flit → ℕ → Option RequestFlit
requests_in [] p = None
requests_in (f ∷ older) p = requests_after f.kind (length older) (requests_in older) p

-- by what is known of each TxnID and each DBID alone
module _ (count more : ℕ) (same : count ≡ more) (transactions after_transactions : ℕ → Option Transaction) (transfers after_transfers : ℕ → Option Transfer)
    (taken_same : (k : ℕ) → after_transactions k ≡ transactions k) (given_same : (d : ℕ) → after_transfers d ≡ transfers d) where
  same_known : (requests : ℕ → Option RequestFlit) → IsKnown count requests transactions transfers → IsKnown more requests after_transactions after_transfers
  same_known requests known = record {
    places = λ p q is. let less = known.places p q is in omega arith;
    taken = λ k t is. known.taken k t (sym (taken_same k) ∙ is);
    given = λ d w is. known.given d w (sym (given_same d) ∙ is);
    has_dbid = λ k t d w is held. known.has_dbid k t d w (sym (taken_same k) ∙ is) (sym (given_same d) ∙ held);
    one_dbid = λ d w e v held also. known.one_dbid d w e v (sym (given_same d) ∙ held) (sym (given_same e) ∙ also);
    dropped = λ k t is. known.dropped k t (sym (taken_same k) ∙ is);
  }

  same_step : (l : List Open) → InStep count transactions transfers l → InStep more after_transactions after_transfers l
  same_step l in_step = record {
    below = subst (λ (n : ℕ). All (λ o. o.id < 8 * n) l) same in_step.below;
    taken = λ k t is. in_step.taken k t (sym (taken_same k) ∙ is);
    given = λ d w is. in_step.given d w (sym (given_same d) ∙ is);
    chunks = λ d w is. in_step.chunks d w (sym (given_same d) ∙ is);
  }

-- what a flit that fits says
record Fits (older : List Flit) (f : Flit) : Type 0 where
  later : last_time older ≤ f.time
  few : length older < 2 ^ 61
  kind : fault_with (λ k. transaction k older) (λ d. transfer d older) f.kind ≡ None

fits_so : (older : List Flit) (f : Flit) → fault_by older f ≡ None → Fits older f
fits_so older f none =
    let known = fault_with (λ k. transaction k older) (λ d. transfer d older) f.kind in
    let first = no_fault (nat_lt f.time (last_time older)) fault.TimeFalls (if nat_le (2 ^ 61) (length older) then Some fault.TooMany else known) none in
    let second = no_fault (nat_le (2 ^ 61) (length older)) fault.TooMany known first.1 in
    record { later = ltb-false f.time (last_time older) first.0; few = leb-false (2 ^ 61) (length older) second.0; kind = second.1 }

one_more : (n : ℕ) → n + 1 ≡ suc n
one_more n = omega arith

-- what is known after the flits
abbrev known_of : (flits : List Flit) → IsKnown (length flits) (requests_in flits) (λ k. transaction k flits) (λ d. transfer d flits) → Knowledge
known_of flits known =
    record { count = length flits; requests = requests_in flits; transactions = λ k. transaction k flits; transfers = λ d. transfer d flits; known = known }

known_flits : (flits : List Flit) → CanBeTaken flits → IsKnown (length flits) (requests_in flits) (λ k. transaction k flits) (λ d. transfer d flits)
unfolding CanBeTaken taken given
known_flits [] are = record {
  places = λ p q is. absurd (none-some q is);
  taken = λ k t is. absurd (none-some t is);
  given = λ d w is. absurd (none-some w is);
  has_dbid = λ k t d w is. absurd (none-some t is);
  one_dbid = λ d w e v held. absurd (none-some w held);
  dropped = λ k t is. absurd (none-some t is);
}
known_flits (f ∷ older) are =
    same_known (length older + 1) (length (f ∷ older)) (one_more (length older)) _ (λ k. transaction k (f ∷ older)) _ (λ d. transfer d (f ∷ older))
    (λ k. transaction_more f.time older k f.kind) (λ d. transfer_more f.time older d f.kind) (requests_in (f ∷ older))
    (known_after (known_of older (known_flits older are.2)) f.kind (fits_so older f are.1).kind)

-- after a flit of each kind
steps_of : (s : State) (k : FlitKind) → fault_with s.knowledge.transactions s.knowledge.transfers k ≡ None → HasChunks k
    → GoesOn s k (told_with s.knowledge.count s.knowledge.transactions s.knowledge.transfers k)
steps_of s (kind.Request q) fits own = request_steps s q
steps_of s (kind.Response r) fits own = response_steps s r fits
steps_of s (kind.ReadData d) fits own = read_steps s d fits
steps_of s (kind.WriteData d) fits own = write_steps s d fits own

-- what the events of the flits come to
pub record Comes (flits : List Flit) : Type 0 where
  pub ready : ReadyInTurn (events_told flits) []
  pub order : InOrder 0 (events_told flits)
  pub by : AreBy (last_time flits) (events_told flits)
  pub in_step : InStep (length flits) (λ k. transaction k flits) (λ d. transfer d flits) (effects_of (events_told flits) [])

comes_first : Comes []
unfolding events_told taken given
comes_first = record {
  ready = tt;
  order = tt;
  by = tt;
  in_step = record {
    below = All-nil (λ o. o.id < 8 * 0);
    taken = λ k t is. absurd (none-some t is);
    given = λ d w is. absurd (none-some w is);
    chunks = λ d w is. absurd (none-some w is);
  };
}

pub comes_to : (flits : List Flit) → CanBeTaken flits → Comes flits
unfolding CanBeTaken events_told
comes_to [] can = comes_first
comes_to (f ∷ older) can =
    let old = comes_to older can.2 in
    let fits = fits_so older f can.1 in
    let ks = told_by older f.kind in
    let state : State =
    record {
      time = f.time;
      knowledge = known_of older (known_flits older can.2);
      small = fits.few;
      outstanding = effects_of (events_told older) [];
      in_step = old.in_step;
    } in
    let goes = steps_of state f.kind fits.kind can.0.chunks in
    record {
      ready = ready_more (events_told older) f.time ks [] old.ready goes.0;
      order = order_more 0 (events_told older) f.time ks (omega arith) can.0.time (by_later (events_told older) (last_time older) f.time fits.later old.by) old.order;
      by = by_more (events_told older) f.time ks (by_later (events_told older) (last_time older) f.time fits.later old.by);
      in_step = subst (InStep (length (f ∷ older)) (λ k. transaction k (f ∷ older)) (λ d. transfer d (f ∷ older))) (sym (effects_more (events_told older) f.time ks []))
          (same_step (length older + 1) (length (f ∷ older)) (one_more (length older)) _ (λ k. transaction k (f ∷ older)) _ (λ d. transfer d (f ∷ older))
          (λ k. transaction_more f.time older k f.kind) (λ d. transfer_more f.time older d f.kind) (effects f.time ks (effects_of (events_told older) [])) goes.1);
    }

-- before any event
pub reaches_none : Reaches [] [] 0
unfolding each_request
reaches_none = record {
  ended = [];
  tells = record {
    bounds = All-nil IsEvent;
    in_time = λ i j d from below. absurd (omega arith);
    times = All-nil (λ (e : Event). e.time ≤ 0);
    requests = refl;
    ends = IsPermutation-refl [];
    last = λ i j d less below. absurd (omega arith);
    accepted = All-nil IsAccepted;
  };
}

pub accepted : (flits : List Flit) → CanBeTaken flits → AreAccepted (events_told flits) ⊎ AreRefused (events_told flits)
accepted flits can =
    let comes = comes_to flits can in judged (events_told flits) (come_in_turn (events_told flits) [] [] 0 reaches_none comes.order comes.ready)
