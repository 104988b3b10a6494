-- what a flit changes of what is known of a TxnID or a DBID
use Rattle.std.specs.Prelude.{◌≡◌, ℕ, ◌==◌, Bool, false, not, ◌&&◌, ◌||◌, if◌then◌else◌, List, Option, None, Some, option_map, length}
use Rattle.std.specs.BTreeMap.{is_at}
use Rattle.std.specs.Map.{lookup}
use Rattle.std.specs.Ordering.{nat_cmp}
use Rattle.chi_events.specs.declared.event.EventKind.{EventKind}
use Rattle.chi_flits.specs.declared.flit.DataFlit.{DataFlit}
use Rattle.chi_flits.specs.declared.flit.Flit.{Flit}
use Rattle.chi_flits.specs.declared.flit.FlitKind.{FlitKind}
use Rattle.chi_flits.specs.declared.flit.FlitKind.TheVariants as kind
use Rattle.chi_flits.specs.declared.flit.RequestFlit.{RequestFlit}
use Rattle.chi_flits.specs.declared.flit.ResponseFlit.{ResponseFlit}
use Rattle.chi_flits.specs.declared.transaction.Transaction.{Transaction}
use Rattle.chi_flits.specs.declared.transfer.Transfer.{Transfer}
use Rattle.chi_flits.specs.Answers.{drops, key, quarters}
use Rattle.chi_flits.specs.Faults.{fault_with, is_answered, last_time}
use Rattle.chi_flits.specs.History.{has_quarter, has_response, transaction, transfer}
use Rattle.chi_flits.specs.Opcodes.{gives_dbid, is_cancel, is_comp, is_read_data, is_response, is_retry, is_write_data, takes_txn}
use Rattle.chi_flits.specs.Told.{told_with, with_chunks}

-- a request that took its TxnID, to which nothing was answered
abbrev pub opened : ℕ → RequestFlit → Transaction
opened place q = record {
  request = q;
  place = place;
  is_retried = false;
  has_dbid = false;
  is_completed = false;
  answered = quarters (λ c. false);
  is_dropped = false;
}

-- one that was given a DBID, of which no data came
abbrev pub begun : Transaction → Transfer
begun t = record { request = t.request; place = t.place; chunks = quarters (λ c. None); has_cancel = false; has_data = false; is_dropped = false }

-- with an answer more
abbrev pub with_answer : FlitKind → Transaction → Transaction
with_answer k t = record t {
  is_retried = has_response is_retry k || t.is_retried;
  has_dbid = has_response gives_dbid k || t.has_dbid;
  is_completed = has_response is_comp k || t.is_completed;
  answered = quarters (λ c. has_quarter c k || is_answered t c);
}

-- with data more
abbrev pub with_write : DataFlit → Transfer → Transfer
with_write d t = record t {
  chunks = with_chunks d t.chunks;
  has_cancel = is_cancel d.opcode || t.has_cancel;
  has_data = not (is_cancel d.opcode) || t.has_data;
  is_dropped = drops d || t.is_dropped;
}

-- the data are of this request
abbrev pub is_of : ℕ → Transaction → Option Transfer → Bool
is_of k t None = false
is_of k t (Some w) = key w.request.src w.request.txn == k && w.place == t.place

abbrev pub dropped_by : ℕ → Option Transfer → Transaction → Transaction
dropped_by k sent t = record t { is_dropped = is_of k t sent || t.is_dropped }

-- what is known of a TxnID after a flit of a kind, of which so many came before, where the DBIDs are known
abbrev pub transaction_after : FlitKind → ℕ → (ℕ → Option Transfer) → ℕ → Option Transaction → Option Transaction
transaction_after (kind.Request q) place transfers k before = if takes_txn q.opcode && key q.src q.txn == k then Some (opened place q) else before
transaction_after (kind.Response r) place transfers k before =
    if is_response r.opcode && key r.tgt r.txn == k then option_map (with_answer (kind.Response r)) before else before
transaction_after (kind.ReadData d) place transfers k before =
    if is_read_data d.opcode && key d.node d.txn == k then option_map (with_answer (kind.ReadData d)) before else before
transaction_after (kind.WriteData w) place transfers k before =
    if is_write_data w.opcode && drops w then option_map (dropped_by k (transfers (key w.node w.txn))) before else before

-- what is known of a DBID after a response to a request
abbrev pub given_after : ResponseFlit → Transaction → ℕ → Option Transfer → Option Transfer
given_after r t d before = if gives_dbid r.opcode && key r.tgt r.dbid == d then Some (begun t) else before

-- what is known of a DBID after a flit of a kind, where the TxnIDs are known
abbrev pub transfer_after : FlitKind → (ℕ → Option Transaction) → ℕ → Option Transfer → Option Transfer
transfer_after (kind.Request q) transactions d before = before
transfer_after (kind.Response r) transactions d before =
    if gives_dbid r.opcode && key r.tgt r.dbid == d then option_map begun (transactions (key r.tgt r.txn)) else before
transfer_after (kind.ReadData w) transactions d before = before
transfer_after (kind.WriteData w) transactions d before = if is_write_data w.opcode && key w.node w.txn == d then option_map (with_write w) before else before

-- what a port knows: of each TxnID and each DBID that was seen, how many flits it took, and the time of the last
pub record PortValue : Type 0 where
  pub transactions : List (ℕ × Transaction)
  pub transfers : List (ℕ × Transfer)
  pub count : ℕ
  pub time : ℕ

abbrev pub transaction_in : PortValue → ℕ → Option Transaction
transaction_in p k = lookup (is_at (nat_cmp k)) p.transactions

abbrev pub transfer_in : PortValue → ℕ → Option Transfer
transfer_in p d = lookup (is_at (nat_cmp d)) p.transfers

-- a flit of a kind changes what is known
pub record Knows (k : FlitKind) (old new : PortValue) : Type 0 where
  pub transactions : (t : ℕ) → transaction_in new t ≡ transaction_after k old.count (transfer_in old) t (transaction_in old t)
  pub transfers : (d : ℕ) → transfer_in new d ≡ transfer_after k (transaction_in old) d (transfer_in old d)

-- A flit of a kind can come next, tells these events, and changes what is known.
pub record IsTaken (k : FlitKind) (old : PortValue) (told : List EventKind) (new : PortValue) : Type 0 where
  pub fits : fault_with (transaction_in old) (transfer_in old) k ≡ None
  pub tells : told ≡ told_with old.count (transaction_in old) (transfer_in old) k
  pub knows : Knows k old new
  pub count : new.count ≡ old.count
  pub time : new.time ≡ old.time

-- The port took these flits, of which the newest stands first.
pub record HasSeen (flits : List Flit) (p : PortValue) : Type 0 where
  pub transactions : (t : ℕ) → transaction_in p t ≡ transaction t flits
  pub transfers : (d : ℕ) → transfer_in p d ≡ transfer d flits
  pub count : p.count ≡ length flits
  pub time : p.time ≡ last_time flits
