-- what the outstanding requests wait for, as TxnIDs and DBIDs have it
use Rattle.std.specs.Prelude.{◌<◌, ◌^◌, ◌&&◌, ◌||◌, if◌then◌else◌}
use Rattle.std.proofs.Common.{◌≡◌, ℕ, ◌+◌, ◌*◌, ◌≤◌, true, false, not, List, [], ◌∷◌, All, Option, Some, None, is_some, sym, ap, subst, ◌∙◌, arith}
use Rattle.std.proofs.lemmas.Bool.{and_parts, and_right, or_from, or_parts, true≢false, false≢true}
use Rattle.std.proofs.lemmas.List.Elements.{All-weaker}
use Rattle.std.proofs.lemmas.Option.{same_Some}
use Rattle.chi_trace.specs.RequestFields.{access_of}
use Rattle.chi_trace.specs.declared.request_fields.RequestFields.{RequestFields}
use Rattle.chi_events.specs.declared.event.Completion.{Completion}
use Rattle.chi_events.specs.declared.event.EventKind.{EventKind}
use Rattle.chi_events.specs.declared.event.EventKind.TheVariants as event
use Rattle.chi_events.specs.declared.event.Packet.{Packet}
use Rattle.chi_events.specs.declared.outstanding.Open.{Open}
use Rattle.chi_events.specs.EventEffects.{still_open, with_data, with_reply}
use Rattle.chi_events.specs.Operations.{with_packet}
use Rattle.chi_events.specs.Outstanding.{open_with}
use Rattle.chi_flits.specs.Accepted.{IsChunk}
use Rattle.chi_flits.specs.Answers.{chunk_at}
use Rattle.chi_flits.specs.declared.flit.Chunk.{Chunk}
use Rattle.chi_flits.specs.declared.transaction.Transaction.{Transaction}
use Rattle.chi_flits.specs.declared.transfer.Transfer.{Transfer}
use Rattle.chi_flits.specs.declared.flit.FlitKind.{FlitKind}
use Rattle.chi_flits.specs.Effects.{transaction_after, transfer_after, with_answer}
use Rattle.chi_flits.specs.History.{has_quarter, has_response}
use Rattle.chi_flits.specs.Opcodes.{gives_dbid, is_comp, is_retry}
use Rattle.chi_flits.specs.Faults.{is_answered, is_held}
use Rattle.chi_flits.specs.Requests.{count_of, fields_at, is_told, needs_data, quarter_at}
use Rattle.chi_flits.specs.Told.{are_whole, number_of}
use Rattle.chi_flits.proofs.Decided.{count_few, quarter_below}
use Rattle.chi_flits.proofs.Known.{Knowledge}
use Rattle.chi_flits.proofs.Lookups.{found_number}
use Rattle.chi_flits.proofs.Packets.{quarter_is}
use Rattle.chi_flits.proofs.Rows.{IsOf, left_of, numbers_apart, operations_apart, row, row_others, row_own, row_ready}
use Rattle.chi_flits.proofs.Ready.{AreReady, Ready, WaitsForData, WaitsForReply, effects, fair_whole}

-- the request waits for its data, which decide whether a home refuses it
pub record AwaitsData (fields : RequestFields) (found : Option Open) : Type 0 where
  pub request : Open
  pub is : found ≡ Some request
  pub whole : request.is_whole ≡ false
  pub access : request.access ≡ None
  pub refusal : request.refusal ≡ None
  pub fields_are : request.fields ≡ fields

-- each operation that the home is still to answer is outstanding, and so is each that is still to have a DBID
pub record TransactionWaits (l : List Open) (t : Transaction) : Type 0 where
  pub answers : is_told t.request ≡ true → t.is_retried ≡ false → t.is_dropped ≡ false → (i : ℕ) → i < count_of t.request
      → (t.is_completed || is_answered t (quarter_at t.request i)) ≡ false → WaitsForReply (open_with (number_of t.place i) l)
  pub grants : is_told t.request ≡ true → t.is_retried ≡ false → needs_data t.request ≡ true → t.has_dbid ≡ false → (i : ℕ) → i < count_of t.request
      → AwaitsData (fields_at t.request i) (open_with (number_of t.place i) l)

-- each operation whose data are still to be told is outstanding
pub record TransferWaits (l : List Open) (w : Transfer) : Type 0 where
  pub sends : is_held w ≡ true → w.is_dropped ≡ false → (i : ℕ) → i < count_of w.request → AwaitsData (fields_at w.request i) (open_with (number_of w.place i) l)

-- the chunks that came are as their types have them
abbrev pub ChunksFit : Transfer → Type 0
ChunksFit w = (c : ℕ) (x : Chunk) → chunk_at w.chunks c ≡ Some x → IsChunk x

-- the outstanding requests after so many flits are in step with what is known
pub record InStep (count : ℕ) (transactions : ℕ → Option Transaction) (transfers : ℕ → Option Transfer) (l : List Open) : Type 0 where
  pub below : All (λ o. o.id < 8 * count) l
  pub taken : (k : ℕ) (t : Transaction) → transactions k ≡ Some t → TransactionWaits l t
  pub given : (d : ℕ) (w : Transfer) → transfers d ≡ Some w → TransferWaits l w
  pub chunks : (d : ℕ) (w : Transfer) → transfers d ≡ Some w → ChunksFit w

pub below_more : (count : ℕ) (transactions : ℕ → Option Transaction) (transfers : ℕ → Option Transfer) (l : List Open) → InStep count transactions transfers l → All (λ o. o.id < 8 * (count + 1)) l
below_more count transactions transfers l in_step =
    All-weaker (λ (o : Open). o.id < 8 * count) (λ (o : Open). o.id < 8 * (count + 1)) (λ o less. omega arith) l in_step.below

-- what is known before a flit at a time, and what is outstanding then
pub record State : Type 0 where
  pub time : ℕ
  pub knowledge : Knowledge
  pub small : knowledge.count < 2 ^ 61
  pub outstanding : List Open
  pub in_step : InStep knowledge.count knowledge.transactions knowledge.transfers outstanding

-- after a flit of a kind its events are ready, and what they leave is in step
abbrev pub GoesOn : State → FlitKind → List EventKind → Type 0
GoesOn s f ks =
    let n = s.knowledge in
    AreReady s.time ks s.outstanding
    × InStep (n.count + 1) (λ k. transaction_after f n.count n.transfers k (n.transactions k)) (λ d. transfer_after f n.transactions d (n.transfers d)) (effects s.time ks s.outstanding)

-- the numbers of one place find the same
abbrev pub FindsSame : ℕ → List Open → List Open → Type 0
FindsSame place l now = (i : ℕ) → i < 8 → open_with (number_of place i) now ≡ open_with (number_of place i) l

pub untold : (l : List Open) (t : Transaction) → is_told t.request ≡ false → TransactionWaits l t
untold l t no_one = record {
  answers = λ told. absurd (true≢false (sym told ∙ no_one));
  grants = λ told. absurd (true≢false (sym told ∙ no_one));
}

pub not_held : (l : List Open) (w : Transfer) → is_held w ≡ false → TransferWaits l w
not_held l w no_one = record { sends = λ held. absurd (true≢false (sym held ∙ no_one)) }

-- where the numbers of its place find the same
pub transaction_moved : (l now : List Open) (t : Transaction) → FindsSame t.place l now → TransactionWaits l t → TransactionWaits now t
transaction_moved l now t same waits = record {
  answers = λ told retried dropped i less unanswered.
      let most = count_few t.request told in
      subst WaitsForReply (sym (same i (omega arith))) (waits.answers told retried dropped i less unanswered);
  grants = λ told retried needs given i less.
      let most = count_few t.request told in
      subst (AwaitsData (fields_at t.request i)) (sym (same i (omega arith))) (waits.grants told retried needs given i less);
}

pub transfer_moved : (l now : List Open) (w : Transfer) → FindsSame w.place l now → TransferWaits l w → TransferWaits now w
transfer_moved l now w same waits = record {
  sends = λ held kept i less.
      let most = count_few w.request (and_parts (is_told w.request) (not (are_whole w.request w.chunks)) held).0 in
      subst (AwaitsData (fields_at w.request i)) (sym (same i (omega arith))) (waits.sends held kept i less);
}

-- where a number of its place that finds one that waits for its data goes on to find one
pub transfer_kept : (l now : List Open) (w : Transfer) (place : ℕ) → w.place ≡ place
    → ((i : ℕ) → i < count_of w.request → (fields : RequestFields) → AwaitsData fields (open_with (number_of place i) l) → AwaitsData fields (open_with (number_of place i) now))
    → TransferWaits l w → TransferWaits now w
transfer_kept l now w place same keeps waits = record {
  sends = λ held kept i less.
      let number : number_of w.place i ≡ number_of place i = ap (λ (p : ℕ). number_of p i) same in
      subst (λ (n : ℕ). AwaitsData (fields_at w.request i) (open_with n now)) (sym number)
      (keeps i less (fields_at w.request i) (subst (λ (n : ℕ). AwaitsData (fields_at w.request i) (open_with n l)) number (waits.sends held kept i less)));
}

-- with an answer more, less is waited for
pub answer_waits : (l : List Open) (f : FlitKind) (t : Transaction) → TransactionWaits l t → TransactionWaits l (with_answer f t)
answer_waits l f t waits = record {
  answers = λ told retried dropped i less unanswered.
      let parts = or_parts (with_answer f t).is_completed (is_answered (with_answer f t) (quarter_at t.request i)) unanswered in
      let answered = sym (quarter_is (λ c. has_quarter c f || is_answered t c) (quarter_at t.request i) false (quarter_below t.request i)) ∙ parts.1 in
      waits.answers told (or_parts (has_response is_retry f) t.is_retried retried).1 dropped i less
      (or_from t.is_completed (is_answered t (quarter_at t.request i)) (or_parts (has_response is_comp f) t.is_completed parts.0).1
      (or_parts (has_quarter (quarter_at t.request i) f) (is_answered t (quarter_at t.request i)) answered).1);
  grants = λ told retried needs given i less.
      waits.grants told (or_parts (has_response is_retry f) t.is_retried retried).1 needs (or_parts (has_response gives_dbid f) t.has_dbid given).1 i less;
}

-- a request that waits for its data goes on to wait after its completion
pub after_reply : (c : Completion) (fields : RequestFields) (found after : Option Open) → AwaitsData fields found
    → ((o : Open) → found ≡ Some o → still_open (with_reply c o) ≡ with_reply c o ∷ [] → after ≡ Some (with_reply c o)) → AwaitsData fields after
after_reply c fields found after waits stays =
    let o = waits.request in
    record {
      request = with_reply c o;
      is = stays o waits.is (ap (λ a. if is_some a && true then [] else with_reply c o ∷ []) waits.access);
      whole = waits.whole;
      access = waits.access;
      refusal = waits.refusal;
      fields_are = waits.fields_are;
    }

-- one that waits for its completion goes on to wait after its data
pub after_data : (p : Packet) (found after : Option Open) → WaitsForReply found → WaitsForData p found
    → ((o : Open) → found ≡ Some o → still_open (with_data p o) ≡ with_data p o ∷ [] → after ≡ Some (with_data p o)) → WaitsForReply after
after_data p found after waits ready stays =
    let o = ready.request in
    let same = same_Some waits.request o (sym waits.is ∙ ready.is) in
    let completion : o.completion ≡ None = ap (λ (o : Open). o.completion) (sym same) ∙ waits.completion in
    record {
      request = with_data p o;
      is = stays o ready.is (ap (λ b. if b then [] else with_data p o ∷ []) (and_right (is_some (with_data p o).access) (is_some o.completion) (ap is_some completion)));
      completion = completion;
      fair = fair_whole o.fields.opcode (access_of None (with_packet o.fields p)) ready.decided;
    }

-- the events of a row of operations of one place
module _ (time place : ℕ) (below : place < 2 ^ 61) (tells : ℕ → Option EventKind) (named : (i : ℕ) (k : EventKind) → tells i ≡ Some k → IsOf (number_of place i) k) (n : ℕ) (few : n ≤ 8)
    (l : List Open) where
  abbrev pub after_row : List Open
  after_row = effects time (row tells 0 n) l

  pub elsewhere : (other : ℕ) → other < 2 ^ 61 → (place ≡ other → ⊥) → FindsSame other l after_row
  elsewhere other less apart i small =
      row_others time place below tells named 0 n (number_of other i)
      (λ j from to some same. numbers_apart place other j i below less (omega arith) small apart (sym same)) l

  pub untouched : (i : ℕ) → i < 8 → tells i ≡ None → open_with (number_of place i) after_row ≡ open_with (number_of place i) l
  untouched i small none =
      row_others time place below tells named 0 n (number_of place i)
      (λ j from to some. operations_apart place i j below small (omega arith) (λ same. false≢true (sym (ap is_some (ap tells (sym same) ∙ none)) ∙ some))) l

  module _ (ready : (i : ℕ) → i < n → (k : EventKind) → tells i ≡ Some k → Ready k (open_with (number_of place i) l)) where
    pub reply_leaves : (i : ℕ) → i < n → (c : Completion) → tells i ≡ Some (event.Reply c) → (fields : RequestFields) → AwaitsData fields (open_with (number_of place i) l)
        → AwaitsData fields (open_with (number_of place i) after_row)
    reply_leaves i less c tells_it fields waits = after_reply c fields (open_with (number_of place i) l) (open_with (number_of place i) after_row) waits
        (λ o is left. row_own time place below tells named i (event.Reply c) tells_it (with_reply c o) (found_number (number_of place i) l o is) 0 n (omega arith) (omega arith) (omega arith) l
        (ready i less (event.Reply c) tells_it) (ap (left_of time (event.Reply c)) is ∙ left))

    pub data_leaves : (i : ℕ) → i < n → (p : Packet) → tells i ≡ Some (event.Data p) → WaitsForReply (open_with (number_of place i) l)
        → WaitsForReply (open_with (number_of place i) after_row)
    data_leaves i less p tells_it waits =
        let can = ready i less (event.Data p) tells_it in
        after_data p (open_with (number_of place i) l) (open_with (number_of place i) after_row) waits can
        (λ o is left. row_own time place below tells named i (event.Data p) tells_it (with_data p o) (found_number (number_of place i) l o is) 0 n (omega arith) (omega arith) (omega arith) l can
        (ap (left_of time (event.Data p)) is ∙ left))

    pub all_ready : AreReady time (row tells 0 n) l
    all_ready = row_ready time place below tells named 0 n (omega arith) l (λ i from to. ready i (omega arith))
