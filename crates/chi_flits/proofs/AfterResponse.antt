-- what a response tells is ready, and goes on in step
use Rattle.std.specs.Prelude.{◌<◌, ◌==◌, ◌&&◌, ◌⊎◌, if◌then◌else◌}
use Rattle.std.specs.List.{range_with_len}
use Rattle.std.proofs.Common.{◌≡◌, ℕ, ◌+◌, ◌*◌, Bool, true, false, List, [], Option, Some, None, inl, inr, refl, sym, ap, subst, ◌∙◌, arith}
use Rattle.std.proofs.lemmas.Bool.{and_cases, and_parts, cases_eq, or_left, or_parts, true≢false}
use Rattle.std.proofs.lemmas.Option.{same_Some}
use Rattle.chi_trace.specs.declared.request_fields.RequestFields.{RequestFields}
use Rattle.chi_events.specs.declared.event.Completion.{Completion}
use Rattle.chi_flits.proofs.Responses.{Answered, Steps, WasGiven, answers, apart, begun_waits, beneath, by_taken, few, fit, is_it, no_answer, no_transfer, none_taken, not_dropped, not_told, steps_to, still, unanswered, waits}
use Rattle.chi_events.specs.declared.event.EventKind.{EventKind}
use Rattle.chi_events.specs.declared.event.EventKind.TheVariants as event
use Rattle.chi_events.specs.declared.outstanding.Open.{Open}
use Rattle.chi_events.specs.Outstanding.{open_with}
use Rattle.chi_flits.specs.declared.flit.FlitKind.TheVariants as kind
use Rattle.chi_flits.specs.declared.flit.ResponseFlit.{ResponseFlit}
use Rattle.chi_flits.specs.declared.transaction.Transaction.{Transaction}
use Rattle.chi_flits.specs.declared.transfer.Transfer.{Transfer}
use Rattle.chi_flits.specs.Answers.{key}
use Rattle.chi_flits.specs.Effects.{with_answer}
use Rattle.chi_flits.specs.Faults.{is_answered, response_fault}
use Rattle.chi_flits.specs.Opcodes.{gives_dbid, is_comp, is_response, is_retry}
use Rattle.chi_flits.specs.Requests.{count_of, fields_at, is_told, quarter_at}
use Rattle.chi_flits.specs.Told.{completed, dropped, number_of, replied, reply_without, told_of_response, told_with}
use Rattle.chi_flits.proofs.Fits.{gives_no_retry}
use Rattle.chi_flits.proofs.Known.{given_below, same_request, taken_below}
use Rattle.chi_flits.proofs.Rows.{all_told, IsOf, number_below, row, row_below}
use Rattle.chi_flits.proofs.Ready.{Ready, effects}
use Rattle.chi_flits.proofs.Waiting.{AwaitsData, State, TransactionWaits, TransferWaits, all_ready, below_more, elsewhere, reply_leaves, transaction_moved, transfer_kept, transfer_moved}

module _ (a : Answered) where
  open a use {state as s, response as r, fits, request as t, at, told, answered, state.{time, knowledge, small, outstanding as l, in_step}, state.knowledge.{count, transactions, transfers, known}}

  -- the events of a row, one for each operation, after which other requests are where they were
  module _ (tells : ℕ → Option EventKind) (named : (i : ℕ) (k : EventKind) → tells i ≡ Some k → IsOf (number_of t.place i) k)
      (ready : (i : ℕ) → i < count_of t.request → (k : EventKind) → tells i ≡ Some k → Ready k (open_with (number_of t.place i) l)) where
    abbrev after : List Open
    after = effects time (row tells 0 (count_of t.request)) l

    number_within : (i : ℕ) → i < count_of t.request → number_of t.place i < 8 * (count + 1)
    number_within i less =
        let most = few a in let below = taken_below knowledge (key r.tgt r.txn) t at in number_below t.place i (count + 1) (omega arith) (omega arith) (omega arith)

    others : (k : ℕ) (now : Transaction) → answers s r fits k ≡ false → transactions k ≡ Some now → TransactionWaits after now
    others k now is was =
        let below = taken_below knowledge k now was in
        transaction_moved l after now (elsewhere time t.place (beneath a) tells named (count_of t.request) (few a) l now.place (omega arith) (apart a k now is was)) (in_step.taken k now was)

    row_steps : TransactionWaits after (with_answer (kind.Response r) t) → ((d : ℕ) (w : Transfer) → WasGiven s r fits d w → TransferWaits after w) → Steps s r fits (row tells 0 (count_of t.request))
    row_steps own given = (
      all_ready time t.place (beneath a) tells named (count_of t.request) (few a) l ready,
      steps_to s r fits after
          (row_below time t.place (beneath a) tells named (8 * (count + 1)) 0 (count_of t.request) (λ i less. number_within i (omega arith)) l (below_more count transactions transfers l in_step))
          (λ k now. by_taken s r fits after k now (λ before is was. subst (λ (t : Transaction). TransactionWaits after (with_answer (kind.Response r) t)) (is_it s r fits t at before was) own) (others k now))
          given,
    )

  -- RetryAck
  module _ (retry : is_retry r.opcode ≡ true) where
    abbrev drops : ℕ → Option EventKind
    drops i = Some (event.Dropped (number_of t.place i))

    drops_named : (i : ℕ) (k : EventKind) → drops i ≡ Some k → IsOf (number_of t.place i) k
    drops_named i k is = subst (IsOf (number_of t.place i)) (same_Some (event.Dropped (number_of t.place i)) k is) refl

    drops_ready : (i : ℕ) → i < count_of t.request → (k : EventKind) → drops i ≡ Some k → Ready k (open_with (number_of t.place i) l)
    drops_ready i less k is =
        let late = (fit a).retry retry in
        let one = unanswered a late.1 late.2 (not_dropped a late.0) i less in
        subst (λ k. Ready k (open_with (number_of t.place i) l)) (same_Some (event.Dropped (number_of t.place i)) k is) (one.request, one.is)

    abbrev left : List Open
    left = effects time (row drops 0 (count_of t.request)) l

    retried : Steps s r fits (row drops 0 (count_of t.request))
    retried = row_steps drops drops_named drops_ready over given
      where
        over : TransactionWaits left (with_answer (kind.Response r) t)
        over = record {
          answers = λ told retried. absurd (true≢false (sym (or_left (is_retry r.opcode) t.is_retried retry) ∙ retried));
          grants = λ told retried. absurd (true≢false (sym (or_left (is_retry r.opcode) t.is_retried retry) ∙ retried));
        }

        given : (d : ℕ) (w : Transfer) → WasGiven s r fits d w → TransferWaits left w
        given d w (inl new) = absurd (true≢false (sym retry ∙ gives_no_retry r.opcode (and_parts (gives_dbid r.opcode) (key r.tgt r.dbid == d) new.0).0))
        given d w (inr old) =
            let below = given_below knowledge d w old.1 in
            transfer_moved l left w
            (elsewhere time t.place (beneath a) drops drops_named (count_of t.request) (few a) l w.place (omega arith) (no_transfer a ((fit a).retry retry).0 d w old.1)) (in_step.given d w old.1)

  -- Comp, CompDBIDResp
  module _ (comp : is_comp r.opcode ≡ true) (kept : t.is_dropped ≡ false) where
    abbrev completion : ℕ → Completion
    completion i = record { id = number_of t.place i; reply = reply_without r.resp_err }

    abbrev replies : ℕ → Option EventKind
    replies i = Some (event.Reply (completion i))

    replies_named : (i : ℕ) (k : EventKind) → replies i ≡ Some k → IsOf (number_of t.place i) k
    replies_named i k is = subst (IsOf (number_of t.place i)) (same_Some (event.Reply (completion i)) k is) refl

    replies_ready : (i : ℕ) → i < count_of t.request → (k : EventKind) → replies i ≡ Some k → Ready k (open_with (number_of t.place i) l)
    replies_ready i less k is =
        let first = (fit a).comp comp in
        subst (λ k. Ready k (open_with (number_of t.place i) l)) (same_Some (event.Reply (completion i)) k is) (unanswered a first.0 first.1 kept i less)

    abbrev waiting : List Open
    waiting = effects time (row replies 0 (count_of t.request)) l

    stays : (i : ℕ) → i < count_of t.request → (fields : RequestFields) → AwaitsData fields (open_with (number_of t.place i) l) → AwaitsData fields (open_with (number_of t.place i) waiting)
    stays i less fields one = reply_leaves time t.place (beneath a) replies replies_named (count_of t.request) (few a) l replies_ready i less (completion i) refl fields one

    completes : TransactionWaits waiting (with_answer (kind.Response r) t)
    completes = record {
      answers = λ told retried dropped i less pending.
          absurd (true≢false (sym (or_left (is_comp r.opcode) t.is_completed comp) ∙ (or_parts (with_answer (kind.Response r) t).is_completed (is_answered (with_answer (kind.Response r) t) (quarter_at t.request i)) pending).0));
      grants = λ told retried needs given i less.
          stays i less (fields_at t.request i) ((waits a).grants told (fit a).retried needs (or_parts (gives_dbid r.opcode) t.has_dbid given).1 i less);
    }

    replied_all : Steps s r fits (row replies 0 (count_of t.request))
    replied_all = row_steps replies replies_named replies_ready completes given
      where
        by_place : (d : ℕ) (w : Transfer) → transfers d ≡ Some w → (t.place ≡ w.place) ⊎ (t.place ≡ w.place → ⊥) → TransferWaits waiting w
        by_place d w held (inl same) =
            let counts : count_of t.request ≡ count_of w.request = ap count_of (same_request knowledge (key r.tgt r.txn) t d w at held same) in
            transfer_kept l waiting w t.place (sym same) (λ i less. stays i (omega arith)) (in_step.given d w held)
        by_place d w held (inr other) =
            let below = given_below knowledge d w held in
            transfer_moved l waiting w (elsewhere time t.place (beneath a) replies replies_named (count_of t.request) (few a) l w.place (omega arith) other) (in_step.given d w held)

        given : (d : ℕ) (w : Transfer) → WasGiven s r fits d w → TransferWaits waiting w
        given d w (inl new) =
            begun_waits a waiting (λ i less none needs. stays i less (fields_at t.request i) ((waits a).grants told (fit a).retried needs none i less)) d w new.0 new.1
        given d w (inr old) = by_place d w old.1 (cases_eq t.place w.place)

  -- by its opcode
  of_answer : Steps s r fits (if is_retry r.opcode then dropped t.request t.place else if is_comp r.opcode then completed r t else [])
  of_answer = by_retry (is_retry r.opcode) refl
    where
      by_drop : is_comp r.opcode ≡ true → (b : Bool) → t.is_dropped ≡ b → Steps s r fits (if b then [] else replied t.request t.place (reply_without r.resp_err))
      by_drop comp true drop = still a
      by_drop comp false kept = subst (Steps s r fits) (sym (all_told (λ i. event.Reply (completion comp kept i)) (range_with_len 0 (count_of t.request)))) (replied_all comp kept)

      by_comp : (b : Bool) → is_comp r.opcode ≡ b → Steps s r fits (if b then completed r t else [])
      by_comp true comp = by_drop comp t.is_dropped refl
      by_comp false other = still a

      by_retry : (b : Bool) → is_retry r.opcode ≡ b → Steps s r fits (if b then dropped t.request t.place else if is_comp r.opcode then completed r t else [])
      by_retry true retry = subst (Steps s r fits) (sym (all_told (λ i. event.Dropped (number_of t.place i)) (range_with_len 0 (count_of t.request)))) (retried retry)
      by_retry false other = by_comp (is_comp r.opcode) refl

module _ (s : State) (r : ResponseFlit) (fits : response_fault r (s.knowledge.transactions (key r.tgt r.txn)) (s.knowledge.transfers (key r.tgt r.dbid)) ≡ None) where
  open s use {knowledge.{count, transactions, transfers}}

  of_one : (t : Transaction) → transactions (key r.tgt r.txn) ≡ Some t → Steps s r fits (told_of_response r (Some t))
  of_one t at = choose (is_told t.request && is_response r.opcode) refl
    where
      by_either : (is_told t.request ≡ false) ⊎ (is_response r.opcode ≡ false) → Steps s r fits []
      by_either (inl no_one) = not_told s r fits t at no_one
      by_either (inr none) = no_answer s r fits none

      choose : (b : Bool) → (is_told t.request && is_response r.opcode) ≡ b
          → Steps s r fits (if b then (if is_retry r.opcode then dropped t.request t.place else if is_comp r.opcode then completed r t else []) else [])
      choose true is =
          let parts = and_parts (is_told t.request) (is_response r.opcode) is in
          of_answer (record { state = s; response = r; fits = fits; request = t; at = at; told = parts.0; answered = parts.1 })
      choose false is = by_either (and_cases (is_told t.request) (is_response r.opcode) is)

  pub response_steps : Steps s r fits (told_with count transactions transfers (kind.Response r))
  response_steps = by_option (transactions (key r.tgt r.txn)) refl
    where
      by_option : (o : Option Transaction) → transactions (key r.tgt r.txn) ≡ o → Steps s r fits (told_of_response r o)
      by_option None at = none_taken s r fits at
      by_option (Some t) at = of_one t at
