-- what is known of a TxnID and of a DBID after one flit more
use Rattle.std.specs.Prelude.{ℕ, ◌+◌, ◌==◌, ◌&&◌, if◌then◌else◌, option_map}
use Rattle.std.proofs.Common.{◌≡◌, Bool, true, false, List, ◌∷◌, length, Option, None, Some, refl, sym, ap, ap₂, ◌∙◌, arith}
use Rattle.chi_flits.specs.declared.flit.DataFlit.{DataFlit}
use Rattle.chi_flits.specs.declared.flit.Flit.{Flit}
use Rattle.chi_flits.specs.declared.flit.FlitKind.{FlitKind}
use Rattle.chi_flits.specs.declared.flit.FlitKind.TheVariants as kind
use Rattle.chi_flits.specs.declared.flit.RequestFlit.{RequestFlit}
use Rattle.chi_flits.specs.declared.flit.ResponseFlit.{ResponseFlit}
use Rattle.chi_flits.specs.declared.transaction.Transaction.{Transaction}
use Rattle.chi_flits.specs.declared.transfer.Transfer.{Transfer}
use Rattle.chi_flits.specs.Answers.{drops, key}
use Rattle.chi_flits.specs.Effects.{HasSeen, Knows, PortValue, begun, dropped_by, transaction_after, transaction_in, transfer_after, transfer_in}
use Rattle.chi_flits.specs.Faults.{fault_with, read_fault, request_fault, response_fault, write_fault}
use Rattle.chi_flits.specs.Opcodes.{gives_dbid, is_read_data, is_response, is_write_data, takes_txn}
use Rattle.chi_flits.specs.Told.{told_of_read, told_of_response, told_of_write, told_with}
use Rattle.chi_flits.specs.History.{Taken, answers, given, is_dropped, sent, taken, transaction, transfer}

-- a flit of a kind before others
abbrev after : ℕ → FlitKind → List Flit → List Flit
after time k older = record { time = time; kind = k } ∷ older

module _ (time : ℕ) (older : List Flit) where
  module _ (k : ℕ) where
    -- what is known of the TxnID after a flit of this kind
    abbrev Steps : FlitKind → Type 0
    Steps f = transaction k (after time f older) ≡ transaction_after f (length older) (λ d. transfer d older) k (transaction k older)

    by_request : (q : RequestFlit) → Steps (kind.Request q)
    unfolding taken answers is_dropped
    by_request q = by_test (takes_txn q.opcode && key q.src q.txn == k) refl
      where
        by_test : (b : Bool) → (takes_txn q.opcode && key q.src q.txn == k) ≡ b → Steps (kind.Request q)
        by_test true is = rw is refl
        by_test false is = rw is refl

    by_response : (r : ResponseFlit) → Steps (kind.Response r)
    unfolding taken answers is_dropped
    by_response r = by_test (is_response r.opcode && key r.tgt r.txn == k) (taken k older) refl refl
      where
        by_test : (b : Bool) (t : Option Taken) → (is_response r.opcode && key r.tgt r.txn == k) ≡ b → taken k older ≡ t → Steps (kind.Response r)
        by_test true None is held = rw (is, held) refl
        by_test true (Some t) is held = rw (is, held) refl
        by_test false t is held = rw is refl

    by_read : (d : DataFlit) → Steps (kind.ReadData d)
    unfolding taken answers is_dropped
    by_read d = by_test (is_read_data d.opcode && key d.node d.txn == k) (taken k older) refl refl
      where
        by_test : (b : Bool) (t : Option Taken) → (is_read_data d.opcode && key d.node d.txn == k) ≡ b → taken k older ≡ t → Steps (kind.ReadData d)
        by_test true None is held = rw (is, held) refl
        by_test true (Some t) is held = rw (is, held) refl
        by_test false t is held = rw is refl

    by_write : (w : DataFlit) → Steps (kind.WriteData w)
    unfolding taken answers is_dropped
    by_write w = by_test (is_write_data w.opcode) (drops w) (taken k older) (given (key w.node w.txn) older) refl refl refl refl
      where
        by_test : (b c : Bool) (t g : Option Taken) → is_write_data w.opcode ≡ b → drops w ≡ c → taken k older ≡ t → given (key w.node w.txn) older ≡ g → Steps (kind.WriteData w)
        by_test true true None g is drop held had = rw (is, drop, held) refl
        by_test true true (Some t) None is drop held had = rw (is, drop, held, had) refl
        by_test true true (Some t) (Some g) is drop held had = rw (is, drop, held, had) refl
        by_test true false t g is drop held had = rw (is, drop) refl
        by_test false c t g is drop held had = rw is refl

    pub transaction_more : (f : FlitKind) → Steps f
    transaction_more (kind.Request q) = by_request q
    transaction_more (kind.Response r) = by_response r
    transaction_more (kind.ReadData d) = by_read d
    transaction_more (kind.WriteData w) = by_write w

  module _ (d : ℕ) where
    -- what is known of the DBID after a flit of this kind
    abbrev Moves : FlitKind → Type 0
    Moves f = transfer d (after time f older) ≡ transfer_after f (λ k. transaction k older) d (transfer d older)

    is_given : (r : ResponseFlit) → Moves (kind.Response r)
    unfolding given sent
    is_given r = by_test (gives_dbid r.opcode && key r.tgt r.dbid == d) (taken (key r.tgt r.txn) older) refl refl
      where
        by_test : (b : Bool) (t : Option Taken) → (gives_dbid r.opcode && key r.tgt r.dbid == d) ≡ b → taken (key r.tgt r.txn) older ≡ t → Moves (kind.Response r)
        by_test true None is held = rw (is, held) refl
        by_test true (Some t) is held = rw (is, held) refl
        by_test false t is held = rw is refl

    is_sent : (w : DataFlit) → Moves (kind.WriteData w)
    unfolding given sent
    is_sent w = by_test (is_write_data w.opcode && key w.node w.txn == d) (given d older) refl refl
      where
        by_test : (b : Bool) (g : Option Taken) → (is_write_data w.opcode && key w.node w.txn == d) ≡ b → given d older ≡ g → Moves (kind.WriteData w)
        by_test true None is had = rw (is, had) refl
        by_test true (Some g) is had = rw (is, had) refl
        by_test false g is had = rw is refl

    pub transfer_more : (f : FlitKind) → Moves f
    unfolding given sent
    transfer_more (kind.Request q) = refl
    transfer_more (kind.Response r) = is_given r
    transfer_more (kind.ReadData w) = refl
    transfer_more (kind.WriteData w) = is_sent w

-- by what is known elsewhere, at one place alone
pub transaction_by : (f : FlitKind) (count k : ℕ) (transfers others : ℕ → Option Transfer) (before : Option Transaction) → ((d : ℕ) → transfers d ≡ others d)
    → transaction_after f count transfers k before ≡ transaction_after f count others k before
transaction_by (kind.Request q) count k transfers others before same = refl
transaction_by (kind.Response r) count k transfers others before same = refl
transaction_by (kind.ReadData d) count k transfers others before same = refl
transaction_by (kind.WriteData w) count k transfers others before same =
    ap (λ sent. if is_write_data w.opcode && drops w then option_map (dropped_by k sent) before else before) (same (key w.node w.txn))

pub transfer_by : (f : FlitKind) (d : ℕ) (transactions others : ℕ → Option Transaction) (before : Option Transfer) → ((k : ℕ) → transactions k ≡ others k)
    → transfer_after f transactions d before ≡ transfer_after f others d before
transfer_by (kind.Request q) d transactions others before same = refl
transfer_by (kind.Response r) d transactions others before same =
    ap (λ t. if gives_dbid r.opcode && key r.tgt r.dbid == d then option_map begun t else before) (same (key r.tgt r.txn))
transfer_by (kind.ReadData w) d transactions others before same = refl
transfer_by (kind.WriteData w) d transactions others before same = refl

pub told_by_same : (f : FlitKind) (count : ℕ) (transactions others : ℕ → Option Transaction) (transfers sent : ℕ → Option Transfer) → ((k : ℕ) → transactions k ≡ others k)
    → ((d : ℕ) → transfers d ≡ sent d) → told_with count transactions transfers f ≡ told_with count others sent f
told_by_same (kind.Request q) count transactions others transfers sent same known = refl
told_by_same (kind.Response r) count transactions others transfers sent same known = ap (told_of_response r) (same (key r.tgt r.txn))
told_by_same (kind.ReadData d) count transactions others transfers sent same known = ap (told_of_read d) (same (key d.node d.txn))
told_by_same (kind.WriteData w) count transactions others transfers sent same known = ap (told_of_write w) (known (key w.node w.txn))

pub fault_by_same : (f : FlitKind) (transactions others : ℕ → Option Transaction) (transfers sent : ℕ → Option Transfer) → ((k : ℕ) → transactions k ≡ others k)
    → ((d : ℕ) → transfers d ≡ sent d) → fault_with transactions transfers f ≡ fault_with others sent f
fault_by_same (kind.Request q) transactions others transfers sent same known = ap (request_fault q) (same (key q.src q.txn))
fault_by_same (kind.Response r) transactions others transfers sent same known =
    ap₂ (λ t h. response_fault r t h) (same (key r.tgt r.txn)) (known (key r.tgt r.dbid))
fault_by_same (kind.ReadData d) transactions others transfers sent same known = ap (read_fault d) (same (key d.node d.txn))
fault_by_same (kind.WriteData w) transactions others transfers sent same known = ap (write_fault w) (known (key w.node w.txn))

-- The port has seen one flit more.
pub has_seen_more : (flits : List Flit) (old new : PortValue) (f : Flit) → HasSeen flits old → Knows f.kind old new → new.count ≡ old.count + 1 → new.time ≡ f.time → HasSeen (f ∷ flits) new
has_seen_more flits old new f seen knows count time = record {
  transactions = λ k.
      knows.transactions k
      ∙ (transaction_by f.kind old.count k (transfer_in old) (λ d. transfer d flits) (transaction_in old k) seen.transfers
      ∙ (ap₂ (λ n t. transaction_after f.kind n (λ d. transfer d flits) k t) seen.count (seen.transactions k) ∙ sym (transaction_more f.time flits k f.kind)));
  transfers = λ d.
      knows.transfers d
      ∙ (transfer_by f.kind d (transaction_in old) (λ k. transaction k flits) (transfer_in old d) seen.transactions
      ∙ (ap (transfer_after f.kind (λ k. transaction k flits) d) (seen.transfers d) ∙ sym (transfer_more f.time flits d f.kind)));
  count = count ∙ (ap (λ n. n + 1) seen.count ∙ omega arith);
  time = time;
}
