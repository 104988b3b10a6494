-- data to the home, and what is known of their DBID
use Rattle.std.specs.Prelude.{◌<◌, ◌^◌, ◌==◌, ◌&&◌}
use Rattle.std.proofs.Common.{◌≡◌, ℕ, ◌+◌, ◌*◌, ◌≤◌, Bool, true, false, not, List, [], All, Option, Some, None, IfSome, sym, ap, subst, ◌∙◌, eqb-true, eq-eqb, arith}
use Rattle.std.proofs.lemmas.Bool.{and_from, and_parts, not_from_false, or_parts, true≢false}
use Rattle.std.proofs.lemmas.Option.{same_Some}
use Rattle.chi_events.specs.declared.event.EventKind.{EventKind}
use Rattle.chi_events.specs.declared.outstanding.Open.{Open}
use Rattle.chi_events.specs.Outstanding.{open_with}
use Rattle.chi_flits.specs.declared.flit.DataFlit.{DataFlit}
use Rattle.chi_flits.specs.declared.flit.FlitKind.TheVariants as kind
use Rattle.chi_flits.specs.declared.transaction.Transaction.{Transaction}
use Rattle.chi_flits.specs.declared.transfer.Transfer.{Transfer}
use Rattle.chi_flits.specs.Accepted.{IsChunk}
use Rattle.chi_flits.specs.Answers.{drops, key}
use Rattle.chi_flits.specs.Effects.{dropped_by, is_of, transaction_after, transfer_after, with_write}
use Rattle.chi_flits.specs.Faults.{write_fault}
use Rattle.chi_flits.specs.Opcodes.{is_write_data}
use Rattle.chi_flits.specs.Requests.{count_of, fields_at, is_told}
use Rattle.chi_flits.specs.Told.{are_whole, number_of, with_chunks}
use Rattle.chi_flits.proofs.Decided.{count_few}
use Rattle.chi_flits.proofs.Fits.{fits_write}
use Rattle.chi_flits.proofs.Known.{Came, by_came, came_from, given_below, taken_below}
use Rattle.chi_flits.proofs.Packets.{more_chunks}
use Rattle.chi_flits.proofs.Rows.{IsOf, number_below, row, row_below}
use Rattle.chi_flits.proofs.Ready.{Ready, effects}
use Rattle.chi_flits.proofs.Waiting.{AwaitsData, ChunksFit, GoesOn, InStep, State, TransactionWaits, TransferWaits, all_ready, below_more, elsewhere, transaction_moved, transfer_moved}

module _ (s : State) (x : DataFlit) (fits : write_fault x (s.knowledge.transfers (key x.node x.txn)) ≡ None) (own : All (λ c. IfSome c IsChunk) x.chunks) where
  open s use {time, knowledge, knowledge.{count, transactions, transfers, known}, small, outstanding as l, in_step}

  abbrev pub writes : ℕ → Bool
  writes d = is_write_data x.opcode && key x.node x.txn == d

  abbrev pub dropping : Bool
  dropping = is_write_data x.opcode && drops x

  abbrev pub sent : Option Transfer
  sent = transfers (key x.node x.txn)

  abbrev pub WasTaken : ℕ → Transaction → Type 0
  WasTaken k t = Came dropping (dropped_by k sent) (transactions k) t

  abbrev pub WasGiven : ℕ → Transfer → Type 0
  WasGiven d w = Came (writes d) (with_write x) (transfers d) w

  abbrev pub Steps : List EventKind → Type 0
  Steps = GoesOn s (kind.WriteData x)

  chunks_now : (d : ℕ) (w : Transfer) → WasGiven d w → ChunksFit w
  chunks_now d w c = by_came ChunksFit (λ before is held. more_chunks x before.chunks own (in_step.chunks d before held)) (λ is held. in_step.chunks d w held) c

  -- the requests that are outstanding now are in step
  pub steps_to : (now : List Open) → All (λ o. o.id < 8 * (count + 1)) now → ((k : ℕ) (t : Transaction) → WasTaken k t → TransactionWaits now t) → ((d : ℕ) (w : Transfer) → WasGiven d w → TransferWaits now w)
      → InStep (count + 1) (λ k. transaction_after (kind.WriteData x) count transfers k (transactions k)) (λ d. transfer_after (kind.WriteData x) transactions d (transfers d)) now
  steps_to now below taken given = record {
    below = below;
    taken = λ k t is. taken k t (came_from dropping (dropped_by k sent) (transactions k) t is);
    given = λ d w is. given d w (came_from (writes d) (with_write x) (transfers d) w is);
    chunks = λ d w is. chunks_now d w (came_from (writes d) (with_write x) (transfers d) w is);
  }

  -- a request that may be dropped waits for less
  pub drop_waits : (now : List Open) (k : ℕ) (t : Transaction) → TransactionWaits now t → TransactionWaits now (dropped_by k sent t)
  drop_waits now k t waits = record {
    answers = λ told retried kept. waits.answers told retried (or_parts (is_of k t sent) t.is_dropped kept).1;
    grants = waits.grants;
  }

  -- by what is known of its DBID
  pub fits_one : (w : Transfer) → transfers (key x.node x.txn) ≡ Some w → is_write_data x.opcode ≡ true → is_told w.request ≡ true → are_whole w.request w.chunks ≡ false
  fits_one w at writing told = fits_write x w (ap (write_fault x) (sym at) ∙ fits) writing told

  pub at_key : (d : ℕ) (w : Transfer) → writes d ≡ true → transfers d ≡ Some w → transfers (key x.node x.txn) ≡ Some w
  at_key d w is held = ap transfers (eqb-true (key x.node x.txn) d (and_parts (is_write_data x.opcode) (key x.node x.txn == d) is).1) ∙ held

  -- nothing is told
  pub quiet : Steps []
  quiet = (
    tt,
    steps_to l (below_more count transactions transfers l in_step)
        (λ k t. by_came (TransactionWaits l) (λ before is was. drop_waits l k before (in_step.taken k before was)) (λ is was. in_step.taken k t was))
        (λ d w. by_came (TransferWaits l) (more d) (λ is held. in_step.given d w held)),
  )
    where
      more : (d : ℕ) (w : Transfer) → writes d ≡ true → transfers d ≡ Some w → TransferWaits l (with_write x w)
      more d w is held = record {
        sends = λ holds kept.
            let told = (and_parts (is_told w.request) (not (are_whole w.request (with_chunks x w.chunks))) holds).0 in
            let some_left = fits_one w (at_key d w is held) (and_parts (is_write_data x.opcode) (key x.node x.txn == d) is).0 told in
            (in_step.given d w held).sends (and_from (is_told w.request) (not (are_whole w.request w.chunks)) told (not_from_false (are_whole w.request w.chunks) some_left))
            (or_parts (drops x) w.is_dropped kept).1;
      }

-- data to the home of a request that is told, of which nothing was dropped
pub record Sent : Type 0 where
  pub state : State
  pub flit : DataFlit
  pub fits : write_fault flit (state.knowledge.transfers (key flit.node flit.txn)) ≡ None
  pub own : All (λ c. IfSome c IsChunk) flit.chunks
  pub transfer : Transfer
  pub at : state.knowledge.transfers (key flit.node flit.txn) ≡ Some transfer
  pub told : is_told transfer.request ≡ true
  pub writing : is_write_data flit.opcode ≡ true
  pub kept : transfer.is_dropped ≡ false

module _ (a : Sent) where
  open a use {state as s, flit as x, fits, own, transfer as w, at, told, writing, kept, state.{time, knowledge, small, outstanding as l, in_step}, state.knowledge.{count, transactions, transfers, known}}

  pub few : count_of w.request ≤ 8
  few = count_few w.request told

  pub within : w.place < count
  within = given_below knowledge (key x.node x.txn) w at

  pub beneath : w.place < 2 ^ 61
  beneath = let below = within in omega arith

  pub number_within : (i : ℕ) → i < count_of w.request → number_of w.place i < 8 * (count + 1)
  number_within i less = let below = within in let most = few in number_below w.place i (count + 1) (omega arith) (omega arith) (omega arith)

  pub waits : (i : ℕ) → i < count_of w.request → AwaitsData (fields_at w.request i) (open_with (number_of w.place i) l)
  waits = (in_step.given (key x.node x.txn) w at).sends
      (and_from (is_told w.request) (not (are_whole w.request w.chunks)) told (not_from_false (are_whole w.request w.chunks) (fits_one s x fits own w at writing told))) kept

  -- another DBID's request has another place
  pub other_place : (d : ℕ) (v : Transfer) → writes s x fits own d ≡ false → transfers d ≡ Some v → w.place ≡ v.place → ⊥
  other_place d v other held same =
      let one = known.one_dbid (key x.node x.txn) w d v at held same told in
      true≢false (sym (and_from (is_write_data x.opcode) (key x.node x.txn == d) writing (eq-eqb (key x.node x.txn) d one)) ∙ other)

  -- the request of its place has its DBID
  pub dbid_at : (k : ℕ) (t : Transaction) → transactions k ≡ Some t → w.place ≡ t.place → is_told t.request ≡ true → t.has_dbid ≡ true
  dbid_at k t was same told = known.has_dbid k t (key x.node x.txn) w was at (sym same) told

  -- the events of a row, after which other requests are where they were
  module _ (tells : ℕ → Option EventKind) (named : (i : ℕ) (k : EventKind) → tells i ≡ Some k → IsOf (number_of w.place i) k)
      (ready : (i : ℕ) → i < count_of w.request → (k : EventKind) → tells i ≡ Some k → Ready k (open_with (number_of w.place i) l)) where
    abbrev after : List Open
    after = effects time (row tells 0 (count_of w.request)) l

    pub moved : (k : ℕ) (t : Transaction) → transactions k ≡ Some t → (w.place ≡ t.place → ⊥) → TransactionWaits after t
    moved k t was other =
        let below = taken_below knowledge k t was in
        transaction_moved l after t (elsewhere time w.place beneath tells named (count_of w.request) few l t.place (omega arith) other) (in_step.taken k t was)

    -- its own request waits for nothing more, and the one of its place for what is left
    pub row_steps : ((k : ℕ) (t : Transaction) → WasTaken s x fits own k t → TransactionWaits after t) → TransferWaits after (with_write x w) → Steps s x fits own (row tells 0 (count_of w.request))
    row_steps taken done = (
      all_ready time w.place beneath tells named (count_of w.request) few l ready,
      steps_to s x fits own after
          (row_below time w.place beneath tells named (8 * (count + 1)) 0 (count_of w.request) (λ i less. number_within i (omega arith)) l (below_more count transactions transfers l in_step))
          taken (λ d v. by_came (TransferWaits after) (last d) (other d v)),
    )
      where
        last : (d : ℕ) (before : Transfer) → writes s x fits own d ≡ true → transfers d ≡ Some before → TransferWaits after (with_write x before)
        last d before is held = subst (λ (w : Transfer). TransferWaits after (with_write x w)) (same_Some w before (sym at ∙ at_key s x fits own d before is held)) done

        other : (d : ℕ) (v : Transfer) → writes s x fits own d ≡ false → transfers d ≡ Some v → TransferWaits after v
        other d v is held =
            let below = given_below knowledge d v held in
            transfer_moved l after v (elsewhere time w.place beneath tells named (count_of w.request) few l v.place (omega arith) (other_place d v is held)) (in_step.given d v held)
