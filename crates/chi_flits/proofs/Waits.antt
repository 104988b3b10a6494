-- the values of a port's maps are those that flits find
use Rattle.std.specs.Prelude.{◌==◌, ◌⊎◌, ◌&&◌, ◌||◌, All, if◌then◌else◌}
use Rattle.std.specs.BTreeMap.{is_at}
use Rattle.std.specs.List.{list_any}
use Rattle.std.specs.Map.{lookup, values_of}
use Rattle.std.specs.Option.{option_map_or, option_or}
use Rattle.std.specs.Ordering.{nat_cmp}
use Rattle.std.proofs.Common.{◌≡◌, ℕ, Bool, true, false, cond, List, [], ◌∷◌, length, Option, None, Some, option_map, inl, inr, refl, sym, ap, ◌∙◌, subst}
use Rattle.std.proofs.lemmas.Bool.{and_from, and_parts, eqb-true, false≢true, or_cases, or_left, or_right}
use Rattle.std.proofs.lemmas.Option.{none-some, same_Some}
use Rattle.std.proofs.lemmas.List.Elements.{All-head, All-tail}
use Rattle.chi_flits.specs.declared.flit.Flit.{Flit}
use Rattle.chi_flits.specs.declared.flit.FlitKind.{FlitKind}
use Rattle.chi_flits.specs.declared.flit.FlitKind.TheVariants as kind
use Rattle.chi_flits.specs.declared.flit.RequestFlit.{RequestFlit}
use Rattle.chi_flits.specs.declared.flit.ResponseFlit.{ResponseFlit}
use Rattle.chi_flits.specs.declared.transaction.Transaction.{Transaction}
use Rattle.chi_flits.specs.declared.transfer.Transfer.{Transfer}
use Rattle.chi_flits.specs.Answers.{key}
use Rattle.chi_flits.specs.Effects.{HasSeen, PortValue, transaction_in, transfer_in}
use Rattle.chi_flits.specs.History.{Taken, given, given_or, gives, taken, taken_by, transaction, transfer}
use Rattle.chi_flits.specs.Opcodes.{gives_dbid, takes_txn}
use Rattle.chi_flits.specs.Outstanding.{waits_for_answer, waits_for_data, given_waits, taken_waits}

-- two tests that pass together
same_tests : (a b : Bool) → (a ≡ true → b ≡ true) → (b ≡ true → a ≡ true) → a ≡ b
same_tests true b there back = sym (there refl)
same_tests false true there back = back refl
same_tests false false there back = refl

module _ {X : Type 0} (p : X → Bool) where
  -- a value that is known by a number passes
  record Passes (f : ℕ → Option X) : Type 0 where
    number : ℕ
    value : X
    known : f number ≡ Some value
    passes : p value ≡ true

  from_entries : (f : ℕ → Option X) (es : List (ℕ × X)) → All (λ e. f e.0 ≡ Some e.1) es → list_any p (values_of es) ≡ true → Passes f
  from_entries f [] found any = absurd (false≢true any)
  from_entries f (e ∷ es) found any =
      by_case (from_entries f es (All-tail (λ (d : ℕ × X). f d.0 ≡ Some d.1) e es found)) (or_cases (p e.1) (list_any p (values_of es)) any)
    where
      by_case : (list_any p (values_of es) ≡ true → Passes f) → (p e.1 ≡ true) ⊎ (list_any p (values_of es) ≡ true) → Passes f
      by_case later (inl is) = record { number = e.0; value = e.1; known = All-head (λ (d : ℕ × X). f d.0 ≡ Some d.1) e es found; passes = is }
      by_case later (inr is) = later is

  among_entries : (test : ℕ → Bool) (es : List (ℕ × X)) (v : X) → lookup test es ≡ Some v → p v ≡ true → list_any p (values_of es) ≡ true
  among_entries test [] v found is = absurd (none-some v found)
  among_entries test (e ∷ es) v found is = by_test (test e.0) refl (λ later. among_entries test es v later is)
    where
      by_test : (b : Bool) → test e.0 ≡ b → (lookup test es ≡ Some v → list_any p (values_of es) ≡ true) → list_any p (values_of (e ∷ es)) ≡ true
      by_test true at later = or_left (p e.1) (list_any p (values_of es)) (ap p (same_Some e.1 v (subst (λ b. cond b (Some e.1) (lookup test es) ≡ Some v) at found)) ∙ is)
      by_test false at later = or_right (p e.1) (list_any p (values_of es)) (later (subst (λ b. cond b (Some e.1) (lookup test es) ≡ Some v) at found))

  -- what is known by a number passes
  from_known : (f : ℕ → Option X) (k : ℕ) (o : Option X) → f k ≡ o → option_map_or p o false ≡ true → Passes f
  from_known f k None at is = absurd (false≢true is)
  from_known f k (Some v) at is = record { number = k; value = v; known = at; passes = is }

  known_passes : (o : Option X) (v : X) → o ≡ Some v → p v ≡ true → option_map_or p o false ≡ true
  known_passes o v at is = ap (λ (x : Option X). option_map_or p x false) at ∙ is

-- a flit passes
record SomePasses (test : FlitKind → Bool) : Type 0 where
  flit : FlitKind
  passes : test flit ≡ true

from_flits : (test : FlitKind → Bool) (flits : List Flit) → list_any (λ f. test f.kind) flits ≡ true → SomePasses test
from_flits test [] any = absurd (false≢true any)
from_flits test (f ∷ older) any = by_case (from_flits test older) (or_cases (test f.kind) (list_any (λ e. test e.kind) older) any)
  where
    by_case : (list_any (λ e. test e.kind) older ≡ true → SomePasses test) → (test f.kind ≡ true) ⊎ (list_any (λ e. test e.kind) older ≡ true) → SomePasses test
    by_case later (inl is) = record { flit = f.kind; passes = is }
    by_case later (inr is) = later is

-- where a TxnID is taken, or a DBID is given, by one of the flits
module _ (test : FlitKind → Bool) (k : ℕ) where
  module _ (passes : (q : RequestFlit) → key q.src q.txn ≡ k → test (kind.Request q) ≡ true) where
    takes : (f : FlitKind) (place : ℕ) (older : Option Taken) (t : Taken) (b : Bool) → option_or (option_map (λ q. record { request = q; place = place }) (taken_by k f)) older ≡ Some t
        → (older ≡ Some t → b ≡ true) → (test f || b) ≡ true
    takes (kind.Request q) place older t b is later = by_test (takes_txn q.opcode && key q.src q.txn == k) refl
      where
        by_test : (c : Bool) → (takes_txn q.opcode && key q.src q.txn == k) ≡ c → (test (kind.Request q) || b) ≡ true
        by_test true at = or_left (test (kind.Request q)) b (passes q (eqb-true (key q.src q.txn) k (and_parts (takes_txn q.opcode) (key q.src q.txn == k) at).1))
        by_test false at =
            or_right (test (kind.Request q)) b (later (subst (λ c. option_or (option_map (λ q. record { request = q; place = place }) (if c then Some q else None)) older ≡ Some t) at is))
    takes (kind.Response r) place older t b is later = or_right (test (kind.Response r)) b (later is)
    takes (kind.ReadData d) place older t b is later = or_right (test (kind.ReadData d)) b (later is)
    takes (kind.WriteData d) place older t b is later = or_right (test (kind.WriteData d)) b (later is)

    among_taken : (flits : List Flit) (t : Taken) → taken k flits ≡ Some t → list_any (λ f. test f.kind) flits ≡ true
    unfolding taken
    among_taken [] t is = absurd (none-some t is)
    among_taken (f ∷ older) t is = takes f.kind (length older) (taken k older) t (list_any (λ e. test e.kind) older) is (among_taken older t)

  module _ (passes : (r : ResponseFlit) → gives_dbid r.opcode ≡ true → key r.tgt r.dbid ≡ k → test (kind.Response r) ≡ true) where
    gives_it : (f : FlitKind) (older : Option Taken) (known : ℕ → Option Taken) (t : Taken) (b : Bool) → given_or older known (gives k f) ≡ Some t
        → (older ≡ Some t → b ≡ true) → (test f || b) ≡ true
    gives_it (kind.Response r) older known t b is later = by_test (gives_dbid r.opcode && key r.tgt r.dbid == k) refl
      where
        by_test : (c : Bool) → (gives_dbid r.opcode && key r.tgt r.dbid == k) ≡ c → (test (kind.Response r) || b) ≡ true
        by_test true at =
            let parts = and_parts (gives_dbid r.opcode) (key r.tgt r.dbid == k) at in
            or_left (test (kind.Response r)) b (passes r parts.0 (eqb-true (key r.tgt r.dbid) k parts.1))
        by_test false at =
            or_right (test (kind.Response r)) b (later (subst (λ c. given_or older known (if c then Some (key r.tgt r.txn) else None) ≡ Some t) at is))
    gives_it (kind.Request q) older known t b is later = or_right (test (kind.Request q)) b (later is)
    gives_it (kind.ReadData d) older known t b is later = or_right (test (kind.ReadData d)) b (later is)
    gives_it (kind.WriteData d) older known t b is later = or_right (test (kind.WriteData d)) b (later is)

    among_given : (flits : List Flit) (t : Taken) → given k flits ≡ Some t → list_any (λ f. test f.kind) flits ≡ true
    unfolding given
    among_given [] t is = absurd (none-some t is)
    among_given (f ∷ older) t is = gives_it f.kind (given k older) (λ n. taken n older) t (list_any (λ e. test e.kind) older) is (among_given older t)

-- what a port knows is what flits say
module _ (g : ℕ) (flits : List Flit) (port : PortValue) (seen : HasSeen flits port) where
  from_taken : (o : Option Taken) (k : ℕ) (v : Transaction) → taken k flits ≡ o → transaction k flits ≡ Some v → waits_for_answer g v ≡ true → list_any (λ f. taken_waits g flits f.kind) flits ≡ true
  from_taken None k v at known is = absurd (none-some v (sym (ap (option_map _) at) ∙ known))
  from_taken (Some t) k v at known is =
      among_taken (taken_waits g flits) k (λ q same. known_passes (waits_for_answer g) (transaction (key q.src q.txn) flits) v (ap (λ n. transaction n flits) same ∙ known) is) flits t at

  from_given : (o : Option Taken) (d : ℕ) (v : Transfer) → given d flits ≡ o → transfer d flits ≡ Some v → waits_for_data g v ≡ true → list_any (λ f. given_waits g flits f.kind) flits ≡ true
  from_given None d v at known is = absurd (none-some v (sym (ap (option_map _) at) ∙ known))
  from_given (Some t) d v at known is =
      among_given (given_waits g flits) d
      (λ r gives same. and_from (gives_dbid r.opcode) (option_map_or (waits_for_data g) (transfer (key r.tgt r.dbid) flits) false) gives
      (known_passes (waits_for_data g) (transfer (key r.tgt r.dbid) flits) v (ap (λ n. transfer n flits) same ∙ known) is))
      flits t at

  of_request : (k : FlitKind) → taken_waits g flits k ≡ true → Passes (waits_for_answer g) (λ n. transaction n flits)
  of_request (kind.Request q) is = from_known (waits_for_answer g) (λ n. transaction n flits) (key q.src q.txn) (transaction (key q.src q.txn) flits) refl is
  of_request (kind.Response r) is = absurd (false≢true is)
  of_request (kind.ReadData d) is = absurd (false≢true is)
  of_request (kind.WriteData d) is = absurd (false≢true is)

  of_response : (k : FlitKind) → given_waits g flits k ≡ true → Passes (waits_for_data g) (λ n. transfer n flits)
  of_response (kind.Request q) is = absurd (false≢true is)
  of_response (kind.Response r) is =
      from_known (waits_for_data g) (λ n. transfer n flits) (key r.tgt r.dbid) (transfer (key r.tgt r.dbid) flits) refl
      (and_parts (gives_dbid r.opcode) (option_map_or (waits_for_data g) (transfer (key r.tgt r.dbid) flits) false) is).1
  of_response (kind.ReadData d) is = absurd (false≢true is)
  of_response (kind.WriteData d) is = absurd (false≢true is)

  pub answers_waited_for : All (λ e. transaction_in port e.0 ≡ Some e.1) port.transactions
      → list_any (λ t. waits_for_answer g t) (values_of port.transactions) ≡ list_any (λ f. taken_waits g flits f.kind) flits
  answers_waited_for found =
      same_tests (list_any (λ t. waits_for_answer g t) (values_of port.transactions)) (list_any (λ f. taken_waits g flits f.kind) flits)
      (λ any.
      let held = from_entries (waits_for_answer g) (transaction_in port) port.transactions found any in
      from_taken (taken held.number flits) held.number held.value refl (sym (seen.transactions held.number) ∙ held.known) held.passes)
      (λ any.
      let one = from_flits (taken_waits g flits) flits any in
      let held = of_request one.flit one.passes in
      among_entries (waits_for_answer g) (is_at (nat_cmp held.number)) port.transactions held.value (seen.transactions held.number ∙ held.known) held.passes)

  pub data_waited_for : All (λ e. transfer_in port e.0 ≡ Some e.1) port.transfers
      → list_any (λ w. waits_for_data g w) (values_of port.transfers) ≡ list_any (λ f. given_waits g flits f.kind) flits
  data_waited_for found =
      same_tests (list_any (λ w. waits_for_data g w) (values_of port.transfers)) (list_any (λ f. given_waits g flits f.kind) flits)
      (λ any.
      let held = from_entries (waits_for_data g) (transfer_in port) port.transfers found any in
      from_given (given held.number flits) held.number held.value refl (sym (seen.transfers held.number) ∙ held.known) held.passes)
      (λ any.
      let one = from_flits (given_waits g flits) flits any in
      let held = of_response one.flit one.passes in
      among_entries (waits_for_data g) (is_at (nat_cmp held.number)) port.transfers held.value (seen.transfers held.number ∙ held.known) held.passes)
