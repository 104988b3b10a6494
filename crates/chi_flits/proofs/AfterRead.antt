-- what data from the home tell is ready, and goes on in step
use Rattle.std.specs.Prelude.{◌<◌, ◌^◌, ◌==◌, ◌&&◌, ◌||◌, ◌⊎◌, if◌then◌else◌, is_some, option_map}
use Rattle.std.proofs.Common.{◌≡◌, ℕ, ◌+◌, ◌*◌, ◌≤◌, Bool, true, false, not, List, [], Option, Some, None, inl, inr, refl, sym, ap, subst, ◌∙◌, eqb-true, eq-eqb, arith}
use Rattle.std.proofs.lemmas.Bool.{and_from, and_parts, cases_eq, not-true, or_from, or_parts, true≢false}
use Rattle.std.proofs.lemmas.Option.{none-some, same_Some}
use Rattle.chi_trace.specs.declared.request_fields.RequestFields.{RequestFields}
use Rattle.chi_events.specs.declared.event.EventKind.{EventKind}
use Rattle.chi_events.specs.declared.event.EventKind.TheVariants as event
use Rattle.chi_events.specs.declared.outstanding.Open.{Open}
use Rattle.chi_events.specs.Outstanding.{open_with}
use Rattle.chi_flits.specs.declared.flit.FlitKind.TheVariants as kind
use Rattle.chi_flits.specs.declared.flit.Chunk.{Chunk}
use Rattle.chi_flits.specs.declared.flit.DataFlit.{DataFlit}
use Rattle.chi_flits.specs.History.{has_quarter}
use Rattle.chi_flits.specs.declared.transaction.Transaction.{Transaction}
use Rattle.chi_flits.specs.declared.transfer.Transfer.{Transfer}
use Rattle.chi_flits.specs.Answers.{chunk_at, key}
use Rattle.chi_flits.specs.Effects.{with_answer}
use Rattle.chi_flits.specs.Faults.{is_answered, read_fault}
use Rattle.chi_flits.specs.Opcodes.{is_read_data}
use Rattle.chi_flits.specs.Requests.{count_of, fields_at, is_told, quarter_at}
use Rattle.chi_flits.specs.Told.{answered, answered_at, data_reply, number_of, told_of_read, told_with}
use Rattle.chi_flits.proofs.Decided.{count_few, quarter_below}
use Rattle.chi_flits.proofs.Fits.{FitsRead, fits_read}
use Rattle.chi_flits.proofs.Known.{by_came, came_from, given_below, same_key, same_request, taken_below}
use Rattle.chi_flits.proofs.Packets.{quarter_is}
use Rattle.chi_flits.proofs.Rows.{IsOf, number_below, row, row_below}
use Rattle.chi_flits.proofs.Ready.{Ready, WaitsForReply, effects}
use Rattle.chi_flits.proofs.Waiting.{AwaitsData, GoesOn, State, TransactionWaits, TransferWaits, all_ready, answer_waits, below_more, elsewhere, reply_leaves, transaction_moved, transfer_kept, transfer_moved, untouched}

-- what a map makes of a chunk
pub mapped : (g : Chunk → EventKind) (o : Option Chunk) (k : EventKind) → option_map g o ≡ Some k → (c : Chunk) × (o ≡ Some c) × (g c ≡ k)
mapped g None k is = absurd (none-some k is)
mapped g (Some c) k is = (c, refl, same_Some (g c) k is)

module _ (s : State) (d : DataFlit) (fits : read_fault d (s.knowledge.transactions (key d.node d.txn)) ≡ None) where
  open s use {time, knowledge, knowledge.{count, transactions, transfers, known}, small, outstanding as l, in_step}

  abbrev answers : ℕ → Bool
  answers k = is_read_data d.opcode && key d.node d.txn == k

  abbrev Steps : List EventKind → Type 0
  Steps = GoesOn s (kind.ReadData d)

  -- nothing is told
  quiet : Steps []
  quiet = (
    tt,
    record {
      below = below_more count transactions transfers l in_step;
      taken = λ k t is. by_came (TransactionWaits l) (λ before own was. answer_waits l (kind.ReadData d) before (in_step.taken k before was)) (λ other was. in_step.taken k t was)
          (came_from (answers k) (with_answer (kind.ReadData d)) (transactions k) t is);
      given = in_step.given;
      chunks = in_step.chunks;
    },
  )

  module _ (t : Transaction) (at : transactions (key d.node d.txn) ≡ Some t) (told : is_told t.request ≡ true) (reads : is_read_data d.opcode ≡ true) (kept : t.is_dropped ≡ false) where
    fit : FitsRead d t
    fit = fits_read d t (ap (read_fault d) (sym at) ∙ fits) reads told

    few : count_of t.request ≤ 8
    few = count_few t.request told

    within : t.place < count
    within = taken_below knowledge (key d.node d.txn) t at

    beneath : t.place < 2 ^ 61
    beneath = let below = within in omega arith

    waits : TransactionWaits l t
    waits = in_step.taken (key d.node d.txn) t at

    abbrev reply_of : ℕ → Chunk → EventKind
    reply_of i c = event.Reply (record { id = number_of t.place i; reply = data_reply t.request d.resp_err i c })

    abbrev tells : ℕ → Option EventKind
    tells = answered_at d t.request t.place

    named : (i : ℕ) (k : EventKind) → tells i ≡ Some k → IsOf (number_of t.place i) k
    named i k is = let m = mapped (reply_of i) (chunk_at d.chunks (quarter_at t.request i)) k is in subst (IsOf (number_of t.place i)) m.2 refl

    ready : (i : ℕ) → i < count_of t.request → (k : EventKind) → tells i ≡ Some k → Ready k (open_with (number_of t.place i) l)
    ready i less k is =
        let m = mapped (reply_of i) (chunk_at d.chunks (quarter_at t.request i)) k is in
        subst (λ k. Ready k (open_with (number_of t.place i) l)) m.2
        (waits.answers told fit.retried kept i less (or_from t.is_completed (is_answered t (quarter_at t.request i)) fit.completed (fit.fresh i less m.0 m.1)))

    abbrev after : List Open
    after = effects time (row tells 0 (count_of t.request)) l

    stays : (i : ℕ) → i < count_of t.request → (fields : RequestFields) → AwaitsData fields (open_with (number_of t.place i) l) → AwaitsData fields (open_with (number_of t.place i) after)
    stays i less fields one = by_chunk (chunk_at d.chunks (quarter_at t.request i)) refl
      where
        by_chunk : (o : Option Chunk) → chunk_at d.chunks (quarter_at t.request i) ≡ o → AwaitsData fields (open_with (number_of t.place i) after)
        by_chunk None is =
            let most = few in
            subst (AwaitsData fields) (sym (untouched time t.place beneath tells named (count_of t.request) few l i (omega arith) (ap (option_map (reply_of i)) is))) one
        by_chunk (Some c) is =
            reply_leaves time t.place beneath tells named (count_of t.request) few l ready i less (record { id = number_of t.place i; reply = data_reply t.request d.resp_err i c })
            (ap (option_map (reply_of i)) is) fields one

    answers_now : TransactionWaits after (with_answer (kind.ReadData d) t)
    answers_now = record {
      answers = λ told retried dropped i less pending.
          let parts = or_parts t.is_completed (is_answered (with_answer (kind.ReadData d) t) (quarter_at t.request i)) pending in
          let quarter = sym (quarter_is (λ c. has_quarter c (kind.ReadData d) || is_answered t c) (quarter_at t.request i) false (quarter_below t.request i)) ∙ parts.1 in
          let both = or_parts (has_quarter (quarter_at t.request i) (kind.ReadData d)) (is_answered t (quarter_at t.request i)) quarter in
          let most = few in
          subst WaitsForReply (sym (untouched time t.place beneath tells named (count_of t.request) few l i (omega arith)
          (ap (option_map (reply_of i)) (no_chunk (chunk_at d.chunks (quarter_at t.request i)) both.0))))
          (waits.answers told fit.retried kept i less (or_from t.is_completed (is_answered t (quarter_at t.request i)) parts.0 both.1));
      grants = λ told retried needs given i less. stays i less (fields_at t.request i) (waits.grants told fit.retried needs given i less);
    }
      where
        no_chunk : (o : Option Chunk) → is_some o ≡ false → o ≡ None
        no_chunk None is = refl
        no_chunk (Some c) is = absurd (true≢false is)

    answered_all : Steps (row tells 0 (count_of t.request))
    answered_all = (
      all_ready time t.place beneath tells named (count_of t.request) few l ready,
      record {
        below = row_below time t.place beneath tells named (8 * (count + 1)) 0 (count_of t.request) (λ i less. let most = few in number_within i (omega arith)) l
            (below_more count transactions transfers l in_step);
        taken = λ k now is. by_came (TransactionWaits after) (own k) (other k now) (came_from (answers k) (with_answer (kind.ReadData d)) (transactions k) now is);
        given = λ e w held. by_place e w held (cases_eq t.place w.place);
        chunks = in_step.chunks;
      },
    )
      where
        number_within : (i : ℕ) → i < 8 → number_of t.place i < 8 * (count + 1)
        number_within i less = let below = within in number_below t.place i (count + 1) (omega arith) (omega arith) less

        apart : (k : ℕ) (now : Transaction) → answers k ≡ false → transactions k ≡ Some now → t.place ≡ now.place → ⊥
        apart k now other was same =
            let one = same_key knowledge (key d.node d.txn) t k now at was same in
            true≢false (sym (and_from (is_read_data d.opcode) (key d.node d.txn == k) reads (eq-eqb (key d.node d.txn) k one)) ∙ other)

        own : (k : ℕ) (before : Transaction) → answers k ≡ true → transactions k ≡ Some before → TransactionWaits after (with_answer (kind.ReadData d) before)
        own k before is was =
            let same = eqb-true (key d.node d.txn) k (and_parts (is_read_data d.opcode) (key d.node d.txn == k) is).1 in
            let one : t ≡ before = same_Some t before (sym at ∙ (ap transactions same ∙ was)) in
            subst (λ (t : Transaction). TransactionWaits after (with_answer (kind.ReadData d) t)) one answers_now

        other : (k : ℕ) (now : Transaction) → answers k ≡ false → transactions k ≡ Some now → TransactionWaits after now
        other k now is was =
            let below = taken_below knowledge k now was in
            transaction_moved l after now (elsewhere time t.place beneath tells named (count_of t.request) few l now.place (omega arith) (apart k now is was)) (in_step.taken k now was)

        by_place : (e : ℕ) (w : Transfer) → transfers e ≡ Some w → (t.place ≡ w.place) ⊎ (t.place ≡ w.place → ⊥) → TransferWaits after w
        by_place e w held (inl same) =
            let counts : count_of t.request ≡ count_of w.request = ap count_of (same_request knowledge (key d.node d.txn) t e w at held same) in
            transfer_kept l after w t.place (sym same) (λ i less. stays i (omega arith)) (in_step.given e w held)
        by_place e w held (inr other) =
            let below = given_below knowledge e w held in
            transfer_moved l after w (elsewhere time t.place beneath tells named (count_of t.request) few l w.place (omega arith) other) (in_step.given e w held)

  pub read_steps : Steps (told_with count transactions transfers (kind.ReadData d))
  read_steps = by_option (transactions (key d.node d.txn)) refl
    where
      by_flags : (t : Transaction) → transactions (key d.node d.txn) ≡ Some t → (b : Bool) → (is_told t.request && is_read_data d.opcode && not t.is_dropped) ≡ b
          → Steps (if b then answered d t.request t.place else [])
      by_flags t at true is =
          let parts = and_parts (is_told t.request && is_read_data d.opcode) (not t.is_dropped) is in
          let both = and_parts (is_told t.request) (is_read_data d.opcode) parts.0 in
          answered_all t at both.0 both.1 (not-true t.is_dropped parts.1)
      by_flags t at false is = quiet

      by_option : (o : Option Transaction) → transactions (key d.node d.txn) ≡ o → Steps (told_of_read d o)
      by_option None at = quiet
      by_option (Some t) at = by_flags t at (is_told t.request && is_read_data d.opcode && not t.is_dropped) refl
