-- a response, and what is known of its TxnID
use Rattle.std.specs.Prelude.{◌<◌, ◌^◌, ◌==◌, ◌&&◌, ◌⊎◌}
use Rattle.std.specs.List.{list_any, range_with_len}
use Rattle.std.proofs.Common.{◌≡◌, ℕ, ◌+◌, ◌*◌, ◌≤◌, Bool, true, false, not, List, [], All, Option, Some, None, inl, inr, sym, ap, subst, ◌∙◌, eqb-true, eq-eqb, arith}
use Rattle.std.proofs.lemmas.Bool.{and_from, and_left, and_parts, cases_Bool, or_from, true≢false}
use Rattle.std.proofs.lemmas.Option.{none-some, same_Some}
use Rattle.chi_events.specs.declared.event.EventKind.{EventKind}
use Rattle.chi_events.specs.declared.outstanding.Open.{Open}
use Rattle.chi_events.specs.Outstanding.{open_with}
use Rattle.chi_flits.specs.declared.flit.FlitKind.TheVariants as kind
use Rattle.chi_flits.specs.declared.flit.ResponseFlit.{ResponseFlit}
use Rattle.chi_flits.specs.declared.transaction.Transaction.{Transaction}
use Rattle.chi_flits.specs.declared.transfer.Transfer.{Transfer}
use Rattle.chi_flits.specs.Answers.{key}
use Rattle.chi_flits.specs.Effects.{begun, transaction_after, transfer_after, with_answer}
use Rattle.chi_flits.specs.Faults.{is_answered, response_fault}
use Rattle.chi_flits.specs.Opcodes.{gives_dbid, is_response}
use Rattle.chi_flits.specs.Requests.{count_of, fields_at, is_told, needs_data, quarter_at}
use Rattle.chi_flits.specs.Told.{are_whole, number_of}
use Rattle.chi_flits.proofs.Decided.{count_few}
use Rattle.chi_flits.proofs.Each.{any_at}
use Rattle.chi_flits.proofs.Fits.{FitsResponse, fits_response, gives_response}
use Rattle.chi_flits.proofs.Known.{Came, by_came, came_from, same_key, taken_below}
use Rattle.chi_flits.proofs.KnownAfter.{Begun, given_from}
use Rattle.chi_flits.proofs.Packets.{no_chunks}
use Rattle.chi_flits.proofs.Ready.{WaitsForReply}
use Rattle.chi_flits.proofs.Waiting.{AwaitsData, ChunksFit, GoesOn, InStep, State, TransactionWaits, TransferWaits, answer_waits, below_more, not_held, untold}

module _ (s : State) (r : ResponseFlit) (fits : response_fault r (s.knowledge.transactions (key r.tgt r.txn)) (s.knowledge.transfers (key r.tgt r.dbid)) ≡ None) where
  open s use {time, knowledge, knowledge.{count, transactions, transfers, known}, small, outstanding as l, in_step}

  abbrev pub answers : ℕ → Bool
  answers k = is_response r.opcode && key r.tgt r.txn == k

  abbrev pub gives : ℕ → Bool
  gives d = gives_dbid r.opcode && key r.tgt r.dbid == d

  abbrev pub WasTaken : ℕ → Transaction → Type 0
  WasTaken k t = Came (answers k) (with_answer (kind.Response r)) (transactions k) t

  abbrev pub WasGiven : ℕ → Transfer → Type 0
  WasGiven d w = ((gives d ≡ true) × Begun (transactions (key r.tgt r.txn)) w) ⊎ ((gives d ≡ false) × (transfers d ≡ Some w))

  abbrev pub Steps : List EventKind → Type 0
  Steps = GoesOn s (kind.Response r)

  chunks_now : (d : ℕ) (w : Transfer) → WasGiven d w → ChunksFit w
  chunks_now d w (inl new) = subst ChunksFit new.1.is no_chunks
  chunks_now d w (inr old) = in_step.chunks d w old.1

  -- the requests that are outstanding now are in step
  pub steps_to : (now : List Open) → All (λ o. o.id < 8 * (count + 1)) now → ((k : ℕ) (t : Transaction) → WasTaken k t → TransactionWaits now t) → ((d : ℕ) (w : Transfer) → WasGiven d w → TransferWaits now w)
      → InStep (count + 1) (λ k. transaction_after (kind.Response r) count transfers k (transactions k)) (λ d. transfer_after (kind.Response r) transactions d (transfers d)) now
  steps_to now below taken given = record {
    below = below;
    taken = λ k t is. taken k t (came_from (answers k) (with_answer (kind.Response r)) (transactions k) t is);
    given = λ d w is. given d w (given_from (gives d) (transactions (key r.tgt r.txn)) (transfers d) w is);
    chunks = λ d w is. chunks_now d w (given_from (gives d) (transactions (key r.tgt r.txn)) (transfers d) w is);
  }

  -- where it tells nothing
  pub quiet : ((k : ℕ) (t : Transaction) → WasTaken k t → TransactionWaits l t) → ((d : ℕ) (w : Transfer) → WasGiven d w → TransferWaits l w) → Steps []
  quiet taken given = (tt, steps_to l (below_more count transactions transfers l in_step) taken given)

  -- by what became of the TxnID's request
  pub by_taken : (now : List Open) (k : ℕ) (t : Transaction) → ((before : Transaction) → answers k ≡ true → transactions (key r.tgt r.txn) ≡ Some before → TransactionWaits now (with_answer (kind.Response r) before))
      → (answers k ≡ false → transactions k ≡ Some t → TransactionWaits now t) → WasTaken k t → TransactionWaits now t
  by_taken now k t own others c =
      by_came (TransactionWaits now)
      (λ before is was. own before is (ap transactions (eqb-true (key r.tgt r.txn) k (and_parts (is_response r.opcode) (key r.tgt r.txn == k) is).1) ∙ was)) others c

  pub no_answer : is_response r.opcode ≡ false → Steps []
  no_answer none = quiet
      (λ k t. by_taken l k t (λ before is. absurd (true≢false (sym (and_parts (is_response r.opcode) (key r.tgt r.txn == k) is).0 ∙ none))) (λ is at. in_step.taken k t at))
      (λ d w. given d w)
    where
      given : (d : ℕ) (w : Transfer) → WasGiven d w → TransferWaits l w
      given d w (inl new) = absurd (true≢false (sym (gives_response r.opcode (and_parts (gives_dbid r.opcode) (key r.tgt r.dbid == d) new.0).0) ∙ none))
      given d w (inr old) = in_step.given d w old.1

  -- no request has the TxnID
  pub none_taken : transactions (key r.tgt r.txn) ≡ None → Steps []
  none_taken none = quiet (λ k t. by_taken l k t (λ before is at. absurd (none-some before (sym none ∙ at))) (λ is at. in_step.taken k t at)) given
    where
      given : (d : ℕ) (w : Transfer) → WasGiven d w → TransferWaits l w
      given d w (inl new) = absurd (none-some new.1.request (sym none ∙ new.1.was))
      given d w (inr old) = in_step.given d w old.1

  module _ (t : Transaction) (at : transactions (key r.tgt r.txn) ≡ Some t) where
    pub is_it : (before : Transaction) → transactions (key r.tgt r.txn) ≡ Some before → t ≡ before
    is_it before was = same_Some t before (sym at ∙ was)

    pub not_told : is_told t.request ≡ false → Steps []
    not_told no_one = quiet
        (λ k now. by_taken l k now (λ before is was. untold l (with_answer (kind.Response r) before) (ap (λ (t : Transaction). is_told t.request) (sym (is_it before was)) ∙ no_one)) (λ is at. in_step.taken k now at))
        given
      where
        given : (d : ℕ) (w : Transfer) → WasGiven d w → TransferWaits l w
        given d w (inl new) =
            not_held l w (and_left (is_told w.request) (not (are_whole w.request w.chunks))
            (ap (λ (w : Transfer). is_told w.request) (sym new.1.is) ∙ (ap (λ (t : Transaction). is_told t.request) (sym (is_it new.1.request new.1.was)) ∙ no_one)))
        given d w (inr old) = in_step.given d w old.1

-- a response to a request that is told, which holds the TxnID
pub record Answered : Type 0 where
  pub state : State
  pub response : ResponseFlit
  pub fits : response_fault response (state.knowledge.transactions (key response.tgt response.txn)) (state.knowledge.transfers (key response.tgt response.dbid)) ≡ None
  pub request : Transaction
  pub at : state.knowledge.transactions (key response.tgt response.txn) ≡ Some request
  pub told : is_told request.request ≡ true
  pub answered : is_response response.opcode ≡ true

module _ (a : Answered) where
  open a use {state as s, response as r, fits, request as t, at, told, answered, state.{time, knowledge, small, outstanding as l, in_step}, state.knowledge.{count, transactions, transfers, known}}

  pub fit : FitsResponse r t
  fit = fits_response r t (transfers (key r.tgt r.dbid)) (ap (λ (o : Option Transaction). response_fault r o (transfers (key r.tgt r.dbid))) (sym at) ∙ fits) answered told

  pub few : count_of t.request ≤ 8
  few = count_few t.request told

  pub beneath : t.place < 2 ^ 61
  beneath = let below = taken_below knowledge (key r.tgt r.txn) t at in omega arith

  pub waits : TransactionWaits l t
  waits = in_step.taken (key r.tgt r.txn) t at

  -- another TxnID's request has another place
  pub apart : (k : ℕ) (now : Transaction) → answers s r fits k ≡ false → transactions k ≡ Some now → t.place ≡ now.place → ⊥
  apart k now other was same =
      let one = same_key knowledge (key r.tgt r.txn) t k now at was same in
      true≢false (sym (and_from (is_response r.opcode) (key r.tgt r.txn == k) answered (eq-eqb (key r.tgt r.txn) k one)) ∙ other)

  -- a request that has no DBID is of no transfer
  pub no_transfer : t.has_dbid ≡ false → (d : ℕ) (w : Transfer) → transfers d ≡ Some w → t.place ≡ w.place → ⊥
  no_transfer none d w held same = true≢false (sym (known.has_dbid (key r.tgt r.txn) t d w at held same told) ∙ none)

  -- the DBID that it is given is for its data
  pub begun_waits : (now : List Open) → ((i : ℕ) → i < count_of t.request → t.has_dbid ≡ false → needs_data t.request ≡ true → AwaitsData (fields_at t.request i) (open_with (number_of t.place i) now))
      → (d : ℕ) (w : Transfer) → gives s r fits d ≡ true → Begun (transactions (key r.tgt r.txn)) w → TransferWaits now w
  begun_waits now grants d w is new =
      let given = fit.gives (and_parts (gives_dbid r.opcode) (key r.tgt r.dbid == d) is).0 in
      subst (TransferWaits now) (ap begun (is_it s r fits t at new.request new.was) ∙ new.is) (record { sends = λ held kept i less. grants i less given.0 given.1 })

  -- nothing is told of one that was dropped, or was given a DBID alone
  pub still : Steps s r fits []
  still = quiet s r fits
      (λ k now. by_taken s r fits l k now (λ before is was. subst (λ (t : Transaction). TransactionWaits l (with_answer (kind.Response r) t)) (is_it s r fits t at before was) (answer_waits l (kind.Response r) t waits))
      (λ is was. in_step.taken k now was))
      given
    where
      given : (d : ℕ) (w : Transfer) → WasGiven s r fits d w → TransferWaits l w
      given d w (inl new) = begun_waits l (λ i less none needs. waits.grants told fit.retried needs none i less) d w new.0 new.1
      given d w (inr old) = in_step.given d w old.1

  -- one that has no DBID was not dropped
  pub not_dropped : t.has_dbid ≡ false → t.is_dropped ≡ false
  not_dropped none = by_drop (cases_Bool t.is_dropped)
    where
      by_drop : (t.is_dropped ≡ true) ⊎ (t.is_dropped ≡ false) → t.is_dropped ≡ false
      by_drop (inl drop) = absurd (true≢false (sym (known.dropped (key r.tgt r.txn) t at told drop) ∙ none))
      by_drop (inr kept) = kept

  -- the operations' completions are still to come
  pub unanswered : t.is_completed ≡ false → list_any (λ i. is_answered t (quarter_at t.request i)) (range_with_len 0 (count_of t.request)) ≡ false → t.is_dropped ≡ false
      → (i : ℕ) → i < count_of t.request → WaitsForReply (open_with (number_of t.place i) l)
  unanswered pending none kept i less =
      waits.answers told fit.retried kept i less
      (or_from t.is_completed (is_answered t (quarter_at t.request i)) pending (any_at (λ i. is_answered t (quarter_at t.request i)) 0 (count_of t.request) none i (omega arith) (omega arith)))
