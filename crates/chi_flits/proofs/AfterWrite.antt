-- what data to the home tell is ready, and goes on in step
use Rattle.std.specs.Prelude.{◌<◌, ◌==◌, ◌&&◌, ◌⊎◌, if◌then◌else◌, is_some, option_map}
use Rattle.std.specs.List.{range_with_len}
use Rattle.std.proofs.Common.{◌≡◌, ℕ, Bool, true, false, not, List, [], ◌∷◌, All, Option, Some, None, IfSome, inl, inr, refl, sym, ap, subst, ◌∙◌, eq-eqb, arith}
use Rattle.std.proofs.lemmas.Bool.{and_from, and_parts, and_right, cases_eq, not_from_true, not-true, or_from, or_left, or_right, true≢false, false≢true}
use Rattle.std.proofs.lemmas.Option.{same_Some}
use Rattle.chi_trace.specs.RequestFields.{access_of}
use Rattle.chi_trace.specs.declared.request_fields.RequestFields.{RequestFields}
use Rattle.chi_events.specs.declared.event.EventKind.{EventKind}
use Rattle.chi_events.specs.declared.event.EventKind.TheVariants as event
use Rattle.chi_events.specs.declared.event.Packet.{Packet}
use Rattle.chi_events.specs.declared.outstanding.Open.{Open}
use Rattle.chi_events.specs.Operations.{with_packet}
use Rattle.chi_events.specs.Outstanding.{open_with}
use Rattle.chi_flits.specs.declared.flit.Chunk.{Chunk}
use Rattle.chi_flits.specs.declared.flit.DataFlit.{DataFlit}
use Rattle.chi_flits.specs.declared.flit.FlitKind.TheVariants as kind
use Rattle.chi_flits.specs.declared.transaction.Transaction.{Transaction}
use Rattle.chi_flits.specs.declared.transfer.Transfer.{Transfer}
use Rattle.chi_flits.specs.Accepted.{IsChunk}
use Rattle.chi_flits.specs.Answers.{chunk_at, drops, is_error, key}
use Rattle.chi_flits.specs.Effects.{dropped_by, is_of, with_write}
use Rattle.chi_flits.specs.Faults.{write_fault}
use Rattle.chi_flits.specs.Opcodes.{is_cancel, is_write_data}
use Rattle.chi_flits.specs.Requests.{count_of, is_told, quarter_at}
use Rattle.chi_flits.specs.Told.{all_sent, are_whole, dropped, enables_at, number_of, only, sent_at, told_of_data, told_of_write, told_with, unknown_line, with_chunks}
use Rattle.chi_flits.proofs.AfterRead.{mapped}
use Rattle.chi_flits.proofs.Decided.{told_decided}
use Rattle.chi_flits.proofs.Each.{all_at}
use Rattle.chi_flits.proofs.Fits.{}
use Rattle.chi_flits.proofs.Known.{by_came, key_of, same_request}
use Rattle.chi_flits.proofs.Packets.{more_chunks, sent_packet}
use Rattle.chi_flits.proofs.Rows.{IsOf, all_told, row}
use Rattle.chi_flits.proofs.Sent.{Sent, Steps, WasTaken, beneath, dbid_at, drop_waits, few, moved, quiet, row_steps, sent, waits}
use Rattle.chi_flits.proofs.Ready.{IsDecided, Ready, WaitsForReply, effects}
use Rattle.chi_flits.proofs.Waiting.{State, TransactionWaits, data_leaves, not_held}

module _ (a : Sent) where
  open a use {state as s, flit as x, fits, own, transfer as w, at, told, writing, kept, state.{time, knowledge, small, outstanding as l, in_step}, state.knowledge.{count, transactions, transfers, known}}

  -- data that write nothing
  module _ (drop : drops x ≡ true) where
    abbrev drops_at : ℕ → Option EventKind
    drops_at i = Some (event.Dropped (number_of w.place i))

    drops_named : (i : ℕ) (k : EventKind) → drops_at i ≡ Some k → IsOf (number_of w.place i) k
    drops_named i k is = subst (IsOf (number_of w.place i)) (same_Some (event.Dropped (number_of w.place i)) k is) refl

    drops_ready : (i : ℕ) → i < count_of w.request → (k : EventKind) → drops_at i ≡ Some k → Ready k (open_with (number_of w.place i) l)
    drops_ready i less k is =
        let one = waits a i less in
        subst (λ k. Ready k (open_with (number_of w.place i) l)) (same_Some (event.Dropped (number_of w.place i)) k is) (one.request, one.is)

    abbrev after_drops : List Open
    after_drops = effects time (row drops_at 0 (count_of w.request)) l

    dropped_all : Steps s x fits own (row drops_at 0 (count_of w.request))
    dropped_all = row_steps a drops_at drops_named drops_ready taken
        (record { sends = λ held still. absurd (true≢false (sym (or_left (drops x) w.is_dropped drop) ∙ still)) })
      where
        own_drop : (k : ℕ) (t : Transaction) → transactions k ≡ Some t → w.place ≡ t.place → is_of k t (sent s x fits own) ≡ true
        own_drop k t was same =
            ap (is_of k t) at
            ∙ and_from (key w.request.src w.request.txn == k) (w.place == t.place)
            (eq-eqb (key w.request.src w.request.txn) k (key_of knowledge k t (key x.node x.txn) w was at (sym same)))
            (eq-eqb w.place t.place same)

        by_place : (k : ℕ) (t : Transaction) → transactions k ≡ Some t → (w.place ≡ t.place) ⊎ (w.place ≡ t.place → ⊥) → TransactionWaits after_drops (dropped_by k (sent s x fits own) t)
        by_place k t was (inl same) = record {
          answers = λ told retried still. absurd (true≢false (sym (or_left (is_of k t (sent s x fits own)) t.is_dropped (own_drop k t was same)) ∙ still));
          grants = λ told retried needs given. absurd (true≢false (sym (dbid_at a k t was same told) ∙ given));
        }
        by_place k t was (inr other) = drop_waits s x fits own after_drops k t (moved a drops_at drops_named drops_ready k t was other)

        taken : (k : ℕ) (t : Transaction) → WasTaken s x fits own k t → TransactionWaits after_drops t
        taken k t = by_came (TransactionWaits after_drops) (λ before is was. by_place k before was (cases_eq w.place before.place))
            (λ is was. absurd (true≢false (sym (and_from (is_write_data x.opcode) (drops x) writing drop) ∙ is)))

  -- the last of its data
  module _ (no_drop : drops x ≡ false) (whole : are_whole w.request (with_chunks x w.chunks) ≡ true) where
    abbrev packet_of : ℕ → Chunk → Packet
    packet_of i c = record { id = number_of w.place i; be = enables_at w.request i c.be; lanes = only (enables_at w.request i c.be) c.lanes }

    abbrev data_of : ℕ → Chunk → EventKind
    data_of i c = event.Data (packet_of i c)

    abbrev tells_data : ℕ → Option EventKind
    tells_data = sent_at w.request w.place (with_chunks x w.chunks)

    data_named : (i : ℕ) (k : EventKind) → tells_data i ≡ Some k → IsOf (number_of w.place i) k
    data_named i k is = let m = mapped (data_of i) (chunk_at (with_chunks x w.chunks) (quarter_at w.request i)) k is in subst (IsOf (number_of w.place i)) m.2 refl

    data_ready : (i : ℕ) → i < count_of w.request → (k : EventKind) → tells_data i ≡ Some k → Ready k (open_with (number_of w.place i) l)
    data_ready i less k is =
        let m = mapped (data_of i) (chunk_at (with_chunks x w.chunks) (quarter_at w.request i)) k is in
        let one = waits a i less in
        let chunk = more_chunks x w.chunks own (in_step.chunks (key x.node x.txn) w at) (quarter_at w.request i) m.0 m.1 in
        subst (λ k. Ready k (open_with (number_of w.place i) l)) m.2 (record {
          request = one.request;
          is = one.is;
          whole = one.whole;
          decided = subst (λ (a : RequestFields). IsDecided a.opcode (access_of None (with_packet a (packet_of i m.0)))) (sym one.fields_are) (told_decided i (packet_of i m.0) m.0.be w.request told less refl);
          packet = sent_packet m.0 chunk w.request i;
        })

    abbrev after_data : List Open
    after_data = effects time (row tells_data 0 (count_of w.request)) l

    -- each operation has its data now
    stays : (i : ℕ) → i < count_of w.request → WaitsForReply (open_with (number_of w.place i) l) → WaitsForReply (open_with (number_of w.place i) after_data)
    stays i less one =
        by_chunk (chunk_at (with_chunks x w.chunks) (quarter_at w.request i)) refl
        (all_at (λ i. is_some (chunk_at (with_chunks x w.chunks) (quarter_at w.request i))) 0 (count_of w.request) whole i (omega arith) (omega arith))
      where
        by_chunk : (o : Option Chunk) → chunk_at (with_chunks x w.chunks) (quarter_at w.request i) ≡ o → is_some (chunk_at (with_chunks x w.chunks) (quarter_at w.request i)) ≡ true
            → WaitsForReply (open_with (number_of w.place i) after_data)
        by_chunk None is there = absurd (false≢true (ap is_some (sym is) ∙ there))
        by_chunk (Some c) is there =
            data_leaves time w.place (beneath a) tells_data data_named (count_of w.request) (few a) l data_ready i less (packet_of i c) (ap (option_map (data_of i)) is) one

    sent_all : Steps s x fits own (row tells_data 0 (count_of w.request))
    sent_all = row_steps a tells_data data_named data_ready taken
        (not_held after_data (with_write x w) (and_right (is_told w.request) (not (are_whole w.request (with_chunks x w.chunks))) (not_from_true (are_whole w.request (with_chunks x w.chunks)) whole)))
      where
        by_place : (k : ℕ) (t : Transaction) → transactions k ≡ Some t → (w.place ≡ t.place) ⊎ (w.place ≡ t.place → ⊥) → TransactionWaits after_data t
        by_place k t was (inl same) =
            let counts : count_of w.request ≡ count_of t.request = sym (ap count_of (same_request knowledge k t (key x.node x.txn) w was at (sym same))) in
            record {
              answers = λ told retried still i less pending.
                  let number : number_of t.place i ≡ number_of w.place i = ap (λ (p : ℕ). number_of p i) (sym same) in
                  subst (λ (n : ℕ). WaitsForReply (open_with n after_data)) (sym number)
                  (stays i (omega arith) (subst (λ (n : ℕ). WaitsForReply (open_with n l)) number ((in_step.taken k t was).answers told retried still i less pending)));
              grants = λ told retried needs given. absurd (true≢false (sym (dbid_at a k t was same told) ∙ given));
            }
        by_place k t was (inr other) = moved a tells_data data_named data_ready k t was other

        taken : (k : ℕ) (t : Transaction) → WasTaken s x fits own k t → TransactionWaits after_data t
        taken k t = by_came (TransactionWaits after_data) (λ before is was. absurd (true≢false (sym (and_parts (is_write_data x.opcode) (drops x) is).1 ∙ no_drop)))
            (λ is was. by_place k t was (cases_eq w.place t.place))

  of_data : Steps s x fits own (told_of_data x w)
  of_data = by_cancel (is_cancel x.opcode) refl
    where
      drop_row : drops x ≡ true → Steps s x fits own (dropped w.request w.place)
      drop_row drop = subst (Steps s x fits own) (sym (all_told (λ i. event.Dropped (number_of w.place i)) (range_with_len 0 (count_of w.request)))) (dropped_all drop)

      by_whole : drops x ≡ false → (b : Bool) → are_whole w.request (with_chunks x w.chunks) ≡ b → Steps s x fits own (if b then all_sent w.request w.place (with_chunks x w.chunks) else [])
      by_whole no_drop true whole = sent_all no_drop whole
      by_whole no_drop false some_left = quiet s x fits own

      by_error : is_cancel x.opcode ≡ false → (b : Bool) → is_error x.resp_err ≡ b
          → Steps s x fits own (if b then unknown_line w.request ∷ dropped w.request w.place
          else if are_whole w.request (with_chunks x w.chunks) then all_sent w.request w.place (with_chunks x w.chunks) else [])
      by_error no_cancel true error =
          let steps = drop_row (or_right (is_cancel x.opcode) (is_error x.resp_err) error) in ((tt, steps.0), steps.1)
      by_error no_cancel false no_error = by_whole (or_from (is_cancel x.opcode) (is_error x.resp_err) no_cancel no_error) (are_whole w.request (with_chunks x w.chunks)) refl

      by_cancel : (b : Bool) → is_cancel x.opcode ≡ b
          → Steps s x fits own (if b then dropped w.request w.place
          else if is_error x.resp_err then unknown_line w.request ∷ dropped w.request w.place
          else if are_whole w.request (with_chunks x w.chunks) then all_sent w.request w.place (with_chunks x w.chunks) else [])
      by_cancel true cancel = drop_row (or_left (is_cancel x.opcode) (is_error x.resp_err) cancel)
      by_cancel false no_cancel = by_error no_cancel (is_error x.resp_err) refl

module _ (s : State) (x : DataFlit) (fits : write_fault x (s.knowledge.transfers (key x.node x.txn)) ≡ None) (own : All (λ c. IfSome c IsChunk) x.chunks) where
  open s use {knowledge.{count, transactions, transfers}}

  pub write_steps : Steps s x fits own (told_with count transactions transfers (kind.WriteData x))
  write_steps = by_option (transfers (key x.node x.txn)) refl
    where
      by_flags : (w : Transfer) → transfers (key x.node x.txn) ≡ Some w → (b : Bool) → (is_told w.request && is_write_data x.opcode && not w.is_dropped) ≡ b
          → Steps s x fits own (if b then told_of_data x w else [])
      by_flags w at true is =
          let parts = and_parts (is_told w.request && is_write_data x.opcode) (not w.is_dropped) is in
          let both = and_parts (is_told w.request) (is_write_data x.opcode) parts.0 in
          of_data (record {
            state = s;
            flit = x;
            fits = fits;
            own = own;
            transfer = w;
            at = at;
            told = both.0;
            writing = both.1;
            kept = not-true w.is_dropped parts.1;
          })
      by_flags w at false is = quiet s x fits own

      by_option : (o : Option Transfer) → transfers (key x.node x.txn) ≡ o → Steps s x fits own (told_of_write x o)
      by_option None at = quiet s x fits own
      by_option (Some w) at = by_flags w at (is_told w.request && is_write_data x.opcode && not w.is_dropped) refl
