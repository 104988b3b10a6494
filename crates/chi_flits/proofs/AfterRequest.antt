-- a request's operations are told, and go on in step
use Rattle.std.specs.Prelude.{◌<◌, ◌==◌, ◌&&◌, ◌⊎◌, if◌then◌else◌, bit_and}
use Rattle.std.specs.List.{range_with_len}
use Rattle.std.specs.Result.{result_ok}
use Rattle.std.proofs.Common.{◌≡◌, ℕ, ◌+◌, ◌*◌, ◌≤◌, Bool, true, false, List, [], ◌∷◌, All, replicate, Option, Some, None, Result, Ok, Err, inl, inr, refl, sym, ap, subst, ◌∙◌, arith}
use Rattle.std.proofs.lemmas.Bool.{not-true}
use Rattle.std.proofs.lemmas.List.Elements.{All-head, All-tail}
use Rattle.std.proofs.lemmas.Option.{same_Some}
use Rattle.chi_fields.specs.Access.{Access}
use Rattle.chi_fields.specs.declared.refusal.Refusal.{Refusal}
use Rattle.chi_fields.specs.declared.refusal.Refusal.TheVariants as refusal
use Rattle.chi_trace.specs.RequestFields.{access_of}
use Rattle.chi_events.specs.declared.event.EventKind.{EventKind}
use Rattle.chi_events.specs.declared.event.Requested.{Requested}
use Rattle.chi_events.specs.declared.outstanding.Open.{Open}
use Rattle.chi_events.specs.EventEffects.{opened as open_for}
use Rattle.chi_events.specs.Operations.{is_whole, refusal_of}
use Rattle.chi_events.specs.Outstanding.{open_with}
use Rattle.chi_flits.specs.declared.flit.FlitKind.{FlitKind}
use Rattle.chi_flits.specs.declared.flit.FlitKind.TheVariants as kind
use Rattle.chi_flits.specs.declared.flit.RequestFlit.{RequestFlit}
use Rattle.chi_flits.specs.declared.transaction.Transaction.{Transaction}
use Rattle.chi_flits.specs.Answers.{key}
use Rattle.chi_flits.specs.Effects.{opened, transaction_after}
use Rattle.chi_flits.specs.Opcodes.{is_read, is_write, takes_txn}
use Rattle.chi_flits.specs.Requests.{count_of, fields_at, is_told, lanes_at, may_write}
use Rattle.chi_flits.specs.Told.{enables_at, number_of, requested, requested_at, told_with, unknown_line}
use Rattle.chi_flits.proofs.Decided.{count_few, told_decided}
use Rattle.chi_flits.proofs.Known.{given_below, taken_below}
use Rattle.chi_flits.proofs.KnownMore.{put_or}
use Rattle.chi_flits.proofs.Lookups.{past_first}
use Rattle.chi_flits.proofs.Packets.{zero_packet}
use Rattle.chi_flits.proofs.Rows.{all_told, IsOf, number_below, number_is, row, row_below, row_own}
use Rattle.chi_flits.proofs.Ready.{IsDecided, IsFair, Ready, effects, fair_whole}
use Rattle.chi_flits.proofs.Waiting.{GoesOn, InStep, State, TransactionWaits, all_ready, below_more, elsewhere, transaction_moved, transfer_moved, untold}

-- no outstanding request has a number past theirs
free_number : (bound n : ℕ) → bound ≤ n → (l : List Open) → All (λ o. o.id < bound) l → open_with n l ≡ None
free_number bound n past [] all = refl
free_number bound n past (o ∷ l) all =
    let here : o.id < bound = All-head (λ (o : Open). o.id < bound) o l all in
    past_first n o l (λ same. absurd (omega arith)) ∙ free_number bound n past l (All-tail (λ (o : Open). o.id < bound) o l all)

-- before its data have come a home refuses no request that is told
fair_at : (opcode : ℕ) (whole : Bool) (d : Result Access Refusal) → IsDecided opcode d → IsFair opcode (refusal_of whole d)
fair_at opcode true d decided = fair_whole opcode d decided
fair_at opcode false (Ok access) decided = tt
fair_at opcode false (Err refusal.UnknownOpcode) decided = decided
fair_at opcode false (Err refusal.ReservedSize) decided = decided
fair_at opcode false (Err refusal.SizeOutOfProfile) decided = decided
fair_at opcode false (Err refusal.Misaligned) decided = decided
fair_at opcode false (Err refusal.OutOfRegion) decided = decided
fair_at opcode false (Err refusal.BadByteEnable) decided = tt

none_before : (opcode : ℕ) (d : Result Access Refusal) → IsDecided opcode d → refusal_of false d ≡ None
none_before opcode (Ok access) decided = refl
none_before opcode (Err refusal.UnknownOpcode) decided = let is = decided.0 in cc
none_before opcode (Err refusal.ReservedSize) decided = let is = decided.0 in cc
none_before opcode (Err refusal.SizeOutOfProfile) decided = let is = decided.0 in cc
none_before opcode (Err refusal.Misaligned) decided = let is = decided.0 in cc
none_before opcode (Err refusal.OutOfRegion) decided = let is = decided.0 in cc
none_before opcode (Err refusal.BadByteEnable) decided = refl

no_enables : (q : RequestFlit) (i : ℕ) → 0 ≡ enables_at q i 0
no_enables q i = by_test (is_write q.opcode)
  where
    by_test : (b : Bool) → 0 ≡ (if b then bit_and 0 (lanes_at q i) else 0)
    by_test true = refl
    by_test false = refl

first_decided : (q : RequestFlit) (i : ℕ) → is_told q ≡ true → i < count_of q → IsDecided (fields_at q i).opcode (access_of None (fields_at q i))
first_decided q i told less = told_decided i (record { id = 0; be = 0; lanes = replicate 16 0 }) 0 q told less (no_enables q i)

-- one that needs data comes without them
waits_first : (q : RequestFlit) → is_read q.opcode ≡ false → (i : ℕ) → ((fields_at q i).opcode == 0x04) ≡ false
waits_first q no_read i = by_test (q.opcode == 0x1d)
  where
    by_test : (b : Bool) → ((if b then 0x1c else q.opcode) == 0x04) ≡ false
    by_test true = refl
    by_test false = no_read

module _ (s : State) where
  open s use {time, knowledge, knowledge.{count, transactions, transfers, known}, small, outstanding as l, in_step}

  abbrev Steps : FlitKind → List EventKind → Type 0
  Steps = GoesOn s

  module _ (q : RequestFlit) where
    abbrev takes : ℕ → Bool
    takes k = takes_txn q.opcode && key q.src q.txn == k

    -- nothing is told of it
    quiet : is_told q ≡ false → InStep (count + 1) (λ k. transaction_after (kind.Request q) count transfers k (transactions k)) transfers l
    quiet no_one = record {
      below = below_more count transactions transfers l in_step;
      taken = λ k t is. by_taken k t (put_or (takes k) (opened count q) (transactions k) t is);
      given = in_step.given;
      chunks = in_step.chunks;
    }
      where
        by_taken : (k : ℕ) (t : Transaction) → ((takes k ≡ true) × (opened count q ≡ t)) ⊎ ((takes k ≡ false) × (transactions k ≡ Some t)) → TransactionWaits l t
        by_taken k t (inl is) = untold l t (ap (λ (t : Transaction). is_told t.request) (sym is.1) ∙ no_one)
        by_taken k t (inr is) = in_step.taken k t is.1

    module _ (told : is_told q ≡ true) where
      abbrev tells : ℕ → Option EventKind
      tells i = Some (requested_at q count i)

      named : (i : ℕ) (k : EventKind) → tells i ≡ Some k → IsOf (number_of count i) k
      named i k is = subst (IsOf (number_of count i)) (same_Some (requested_at q count i) k is) refl

      few : count_of q ≤ 8
      few = count_few q told

      free : (i : ℕ) → i < count_of q → open_with (number_of count i) l ≡ None
      free i less =
          let most = few in
          let number = number_is count i small (omega arith) in
          free_number (8 * count) (number_of count i) (omega arith) l in_step.below

      ready : (i : ℕ) → i < count_of q → (k : EventKind) → tells i ≡ Some k → Ready k (open_with (number_of count i) l)
      ready i less k is = subst (λ k. Ready k (open_with (number_of count i) l)) (same_Some (requested_at q count i) k is) (free i less, zero_packet)

      abbrev now : List Open
      now = effects time (row tells 0 (count_of q)) l

      abbrev asked : ℕ → Requested
      asked i = record { id = number_of count i; fields = fields_at q i; has_data = false }

      found : (i : ℕ) → i < count_of q → open_with (number_of count i) now ≡ Some (open_for time (asked i))
      found i less =
          let most = few in
          row_own time count small tells named i (requested_at q count i) refl (open_for time (asked i)) refl 0 (count_of q) (omega arith) (omega arith) (omega arith) l
          (ready i less (requested_at q count i) refl) refl

      new_waits : TransactionWaits now (opened count q)
      new_waits = record {
        answers = λ told retried dropped i less unanswered. record {
          request = open_for time (asked i);
          is = found i less;
          completion = refl;
          fair = fair_at (fields_at q i).opcode (is_whole (asked i)) (access_of None (fields_at q i)) (first_decided q i told less);
        };
        grants = λ told retried needs given i less.
            let whole : is_whole (asked i) ≡ false = waits_first q (not-true (is_read q.opcode) needs) i in
            record {
              request = open_for time (asked i);
              is = found i less;
              whole = whole;
              access = ap (λ b. if b then result_ok (access_of None (fields_at q i)) else None) whole;
              refusal = ap (λ b. refusal_of b (access_of None (fields_at q i))) whole ∙ none_before (fields_at q i).opcode (access_of None (fields_at q i)) (first_decided q i told less);
              fields_are = refl;
            };
      }

      by_taken : (k : ℕ) (t : Transaction) → ((takes k ≡ true) × (opened count q ≡ t)) ⊎ ((takes k ≡ false) × (transactions k ≡ Some t)) → TransactionWaits now t
      by_taken k t (inl is) = subst (TransactionWaits now) is.1 new_waits
      by_taken k t (inr is) =
          let below = taken_below knowledge k t is.1 in
          transaction_moved l now t (elsewhere time count small tells named (count_of q) few l t.place (omega arith) (λ same. absurd (omega arith))) (in_step.taken k t is.1)

      row_steps : Steps (kind.Request q) (row tells 0 (count_of q))
      row_steps = (
        all_ready time count small tells named (count_of q) few l ready,
        record {
          below = row_below time count small tells named (8 * (count + 1)) 0 (count_of q) (λ i less. let most = few in number_below count i (count + 1) (omega arith) (omega arith) (omega arith)) l (below_more count transactions transfers l in_step);
          taken = λ k t is. by_taken k t (put_or (takes k) (opened count q) (transactions k) t is);
          given = λ d w is.
              let below = given_below knowledge d w is in
              transfer_moved l now w (elsewhere time count small tells named (count_of q) few l w.place (omega arith) (λ same. absurd (omega arith))) (in_step.given d w is);
          chunks = in_step.chunks;
        },
      )

    pub request_steps : Steps (kind.Request q) (told_with count transactions transfers (kind.Request q))
    request_steps = by_told (is_told q) refl
      where
        by_may : (b : Bool) → is_told q ≡ false → Steps (kind.Request q) (if b then unknown_line q ∷ [] else [])
        by_may true no_one = ((tt, tt), quiet no_one)
        by_may false no_one = (tt, quiet no_one)

        as_told : {b : Bool} → is_told q ≡ b → Steps (kind.Request q) (if b then requested q count else if may_write q then unknown_line q ∷ [] else [])
            → Steps (kind.Request q) (told_with count transactions transfers (kind.Request q))
        as_told is steps = subst (λ b. Steps (kind.Request q) (if b then requested q count else if may_write q then unknown_line q ∷ [] else [])) (sym is) steps

        by_told : (b : Bool) → is_told q ≡ b → Steps (kind.Request q) (told_with count transactions transfers (kind.Request q))
        by_told true told = as_told told (subst (Steps (kind.Request q)) (sym (all_told (requested_at q count) (range_with_len 0 (count_of q)))) (row_steps told))
        by_told false no_one = as_told no_one (by_may (may_write q) no_one)
