-- what is so of what is known where a flit can come next
use Rattle.std.specs.Prelude.{◌<◌, ◌==◌, ◌&&◌, ◌||◌, if◌then◌else◌, option_and_then}
use Rattle.std.specs.Option.{option_or}
use Rattle.std.proofs.Common.{◌≡◌, ℕ, Bool, true, false, not, Option, Some, None, inl, inr, refl, sym, subst, eqb-true, ne_eqb, arith, ◌⊎◌}
use Rattle.std.proofs.lemmas.Bool.{and_from, not-false, or_cases, or_parts}
use Rattle.std.proofs.lemmas.Option.{none-some}
use Rattle.chi_flits.specs.declared.fault.FlitFault.{FlitFault}
use Rattle.chi_flits.specs.declared.fault.FlitFault.TheVariants as fault
use Rattle.chi_flits.specs.declared.flit.Chunk.{Chunk}
use Rattle.chi_flits.specs.declared.flit.DataFlit.{DataFlit}
use Rattle.chi_flits.specs.declared.flit.ResponseFlit.{ResponseFlit}
use Rattle.chi_flits.specs.declared.transaction.Transaction.{Transaction}
use Rattle.chi_flits.specs.declared.transfer.Transfer.{Transfer}
use Rattle.chi_flits.specs.Answers.{chunk_at, is_error}
use Rattle.chi_flits.specs.Faults.{answer_fault, answered_fault, comp_fault, data_fault, dbid_fault, fault_if, has_answers, has_part, held_fault, is_answered, is_complete, is_over, lane_unknown, lanes_fault, open_fault, read_fault, response_fault, write_fault, wrong_answer}
use Rattle.chi_flits.specs.Opcodes.{gives_dbid, is_comp, is_read_data, is_response, is_retry, is_write_data}
use Rattle.chi_flits.specs.Requests.{answers_data, count_of, is_told, needs_data, quarter_at}
use Rattle.chi_flits.specs.Told.{are_whole}
use Rattle.chi_flits.proofs.Each.{none_found}

-- no test has passed before
pub no_fault : (b : Bool) (f : FlitFault) (o : Option FlitFault) → (if b then Some f else o) ≡ None → (b ≡ false) × (o ≡ None)
no_fault true f o none = absurd (none-some f (sym none))
no_fault false f o none = (refl, none)

neither : (a b : Option FlitFault) → option_or a b ≡ None → (a ≡ None) × (b ≡ None)
neither None b none = (refl, none)
neither (Some f) b none = absurd (none-some f (sym none))

-- a response that gives a DBID, or completes, is no RetryAck
pub gives_no_retry : (opcode : ℕ) → gives_dbid opcode ≡ true → is_retry opcode ≡ false
gives_no_retry opcode gives = by_case (or_cases (opcode == 5) (opcode == 6) gives)
  where
    by_case : ((opcode == 5) ≡ true) ⊎ ((opcode == 6) ≡ true) → is_retry opcode ≡ false
    by_case (inl is) = let same = eqb-true opcode 5 is in ne_eqb opcode 3 (λ other. absurd (omega arith))
    by_case (inr is) = let same = eqb-true opcode 6 is in ne_eqb opcode 3 (λ other. absurd (omega arith))

pub comp_no_retry : (opcode : ℕ) → is_comp opcode ≡ true → is_retry opcode ≡ false
comp_no_retry opcode comp = by_case (or_cases (opcode == 4) (opcode == 5) comp)
  where
    by_case : ((opcode == 4) ≡ true) ⊎ ((opcode == 5) ≡ true) → is_retry opcode ≡ false
    by_case (inl is) = let same = eqb-true opcode 4 is in ne_eqb opcode 3 (λ other. absurd (omega arith))
    by_case (inr is) = let same = eqb-true opcode 5 is in ne_eqb opcode 3 (λ other. absurd (omega arith))

pub gives_response : (opcode : ℕ) → gives_dbid opcode ≡ true → is_response opcode ≡ true
gives_response opcode gives = by_case (or_cases (opcode == 5) (opcode == 6) gives)
  where
    by_case : ((opcode == 5) ≡ true) ⊎ ((opcode == 6) ≡ true) → is_response opcode ≡ true
    by_case (inl is) = rw (eqb-true opcode 5 is) refl
    by_case (inr is) = rw (eqb-true opcode 6 is) refl

-- a response that fits is to a request that is not over
pub record FitsResponse (r : ResponseFlit) (t : Transaction) : Type 0 where
  pub retried : t.is_retried ≡ false
  pub retry : is_retry r.opcode ≡ true → (t.has_dbid ≡ false) × (t.is_completed ≡ false) × (has_answers t ≡ false)
  pub gives : gives_dbid r.opcode ≡ true → (t.has_dbid ≡ false) × (needs_data t.request ≡ true)
  pub comp : is_comp r.opcode ≡ true → (t.is_completed ≡ false) × (has_answers t ≡ false)

pub fits_response : (r : ResponseFlit) (t : Transaction) (held : Option Transfer) → response_fault r (Some t) held ≡ None → is_response r.opcode ≡ true → is_told t.request ≡ true → FitsResponse r t
fits_response r t held fits is told =
    record { retried = (or_parts t.is_retried (is_complete t && (t.has_dbid || not (needs_data t.request))) opens.0).0; retry = by_retry; gives = by_gives; comp = by_comp }
  where
    opens : (is_over t ≡ false) × (open_fault r t held ≡ None)
    opens =
        let over = if is_over t then Some fault.NotOpen else open_fault r t held in
        let first = subst (λ b. (if not b then None else if not (is_told t.request) then (if gives_dbid r.opcode then held_fault held else None) else over) ≡ None) is fits in
        no_fault (is_over t) fault.NotOpen (open_fault r t held) (subst (λ b. (if not b then (if gives_dbid r.opcode then held_fault held else None) else over) ≡ None) told first)

    others : is_retry r.opcode ≡ false → option_or (if gives_dbid r.opcode then dbid_fault t held else None) (if is_comp r.opcode then comp_fault r t else None) ≡ None
    others never =
        subst (λ b. (if b then fault_if (t.has_dbid || t.is_completed || has_answers t) fault.RetryLate
        else option_or (if gives_dbid r.opcode then dbid_fault t held else None) (if is_comp r.opcode then comp_fault r t else None)) ≡ None) never opens.1

    by_retry : is_retry r.opcode ≡ true → (t.has_dbid ≡ false) × (t.is_completed ≡ false) × (has_answers t ≡ false)
    by_retry sent =
        let late = no_fault (t.has_dbid || t.is_completed || has_answers t) fault.RetryLate None
        (subst (λ b. (if b then fault_if (t.has_dbid || t.is_completed || has_answers t) fault.RetryLate
        else option_or (if gives_dbid r.opcode then dbid_fault t held else None) (if is_comp r.opcode then comp_fault r t else None)) ≡ None) sent opens.1) in
        let first = or_parts (t.has_dbid || t.is_completed) (has_answers t) late.0 in
        let parts = or_parts t.has_dbid t.is_completed first.0 in
        (parts.0, parts.1, first.1)

    by_gives : gives_dbid r.opcode ≡ true → (t.has_dbid ≡ false) × (needs_data t.request ≡ true)
    by_gives sent =
        let none = (neither (if gives_dbid r.opcode then dbid_fault t held else None) (if is_comp r.opcode then comp_fault r t else None) (others (gives_no_retry r.opcode sent))).0 in
        let second = no_fault (t.has_dbid || not (needs_data t.request)) fault.SecondDbid (held_fault held) (subst (λ b. (if b then dbid_fault t held else None) ≡ None) sent none) in
        let parts = or_parts t.has_dbid (not (needs_data t.request)) second.0 in
        (parts.0, not-false (needs_data t.request) parts.1)

    by_comp : is_comp r.opcode ≡ true → (t.is_completed ≡ false) × (has_answers t ≡ false)
    by_comp sent =
        let none = (neither (if gives_dbid r.opcode then dbid_fault t held else None) (if is_comp r.opcode then comp_fault r t else None) (others (comp_no_retry r.opcode sent))).1 in
        let twice = no_fault (t.is_completed || has_answers t) fault.CompletedTwice (fault_if (answers_data t.request && not (is_error r.resp_err)) fault.NoData)
        (subst (λ b. (if b then comp_fault r t else None) ≡ None) sent none) in
        or_parts t.is_completed (has_answers t) twice.0

-- data from the home that fit are of quarters that were not answered
pub record FitsRead (d : DataFlit) (t : Transaction) : Type 0 where
  pub retried : t.is_retried ≡ false
  pub completed : t.is_completed ≡ false
  pub fresh : (i : ℕ) → i < count_of t.request → (c : Chunk) → chunk_at d.chunks (quarter_at t.request i) ≡ Some c → is_answered t (quarter_at t.request i) ≡ false

pub fits_read : (d : DataFlit) (t : Transaction) → read_fault d (Some t) ≡ None → is_read_data d.opcode ≡ true → is_told t.request ≡ true → FitsRead d t
fits_read d t fits is told = record {
  retried = (or_parts t.is_retried (is_complete t && (t.has_dbid || not (needs_data t.request))) opens.0).0;
  completed = parts.0;
  fresh = λ i below c at. (no_fault (is_answered t (quarter_at t.request i)) fault.OtherData (fault_if (not (is_error d.resp_err) && lane_unknown t.request i c) fault.UnknownLane)
      (subst (λ (o : Option Chunk). option_and_then (lanes_fault d t i) o ≡ None) at (none_found (answered_fault d t) 0 (count_of t.request) parts.1 i (omega arith) (omega arith)))).0;
}
  where
    opens : (is_over t ≡ false) × (answer_fault d t ≡ None)
    opens = no_fault (is_over t) fault.NotOpen (answer_fault d t)
        (subst (λ b. (if not b then None else if is_over t then Some fault.NotOpen else answer_fault d t) ≡ None) (and_from (is_read_data d.opcode) (is_told t.request) is told) fits)

    parts : (t.is_completed ≡ false) × (option_and_then (answered_fault d t) (wrong_answer d t) ≡ None)
    parts =
        let wrong = option_and_then (answered_fault d t) (wrong_answer d t) in
        let other = if not (has_part d t.request) then Some fault.OtherData else wrong in
        let asked = no_fault (not (answers_data t.request)) fault.DataUnasked (if t.is_completed then Some fault.CompletedTwice else other) opens.1 in
        let twice = no_fault t.is_completed fault.CompletedTwice other asked.1 in
        (twice.0, (no_fault (not (has_part d t.request)) fault.OtherData wrong twice.1).1)

-- data to the home that fit are not of a request whose data had all come
pub fits_write : (d : DataFlit) (w : Transfer) → write_fault d (Some w) ≡ None → is_write_data d.opcode ≡ true → is_told w.request ≡ true → are_whole w.request w.chunks ≡ false
fits_write d w fits is told =
    (no_fault (are_whole w.request w.chunks) fault.NotGiven (data_fault d w)
    (subst (λ b. (if not b then None else if are_whole w.request w.chunks then Some fault.NotGiven else data_fault d w) ≡ None) (and_from (is_write_data d.opcode) (is_told w.request) is told) fits)).0
