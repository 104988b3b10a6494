-- what flits say of a TxnID and of a DBID; of a list of flits the newest stands first
use Rattle.std.specs.Prelude.{ℕ, ◌==◌, length, Bool, false, not, ◌&&◌, ◌||◌, if◌then◌else◌, List, [], ◌∷◌, ◌++◌, Option, None, Some, is_some, option_map}
use Rattle.std.specs.List.{list_any}
use Rattle.std.specs.Option.{option_or}
use Rattle.chi_flits.specs.declared.flit.Chunk.{Chunk}
use Rattle.chi_flits.specs.declared.flit.DataFlit.{DataFlit}
use Rattle.chi_flits.specs.declared.flit.Flit.{Flit}
use Rattle.chi_flits.specs.declared.flit.FlitKind.{FlitKind}
use Rattle.chi_flits.specs.declared.flit.FlitKind.TheVariants as kind
use Rattle.chi_flits.specs.declared.flit.RequestFlit.{RequestFlit}
use Rattle.chi_flits.specs.declared.transaction.Transaction.{Transaction}
use Rattle.chi_flits.specs.declared.transfer.Transfer.{Transfer}
use Rattle.chi_flits.specs.Answers.{chunk_at, drops, key, quarters}
use Rattle.chi_flits.specs.Opcodes.{gives_dbid, is_cancel, is_comp, is_read_data, is_response, is_retry, is_write_data, takes_txn}

-- a request, and how many flits came before it
pub record Taken : Type 0 where
  pub request : RequestFlit
  pub place : ℕ

-- the request that takes a TxnID
abbrev pub taken_by : ℕ → FlitKind → Option RequestFlit
taken_by k (kind.Request q) = if takes_txn q.opcode && key q.src q.txn == k then Some q else None
taken_by k _ = None

-- the one that took it last
unfoldable pub taken : ℕ → List Flit → Option Taken
taken k [] = None
taken k (f ∷ older) = option_or (option_map (λ q. record { request = q; place = length older }) (taken_by k f.kind)) (taken k older)

-- what the home answered to that one
abbrev pub is_answer : ℕ → FlitKind → Bool
is_answer k (kind.Response r) = is_response r.opcode && key r.tgt r.txn == k
is_answer k (kind.ReadData d) = is_read_data d.opcode && key d.node d.txn == k
is_answer k _ = false

unfoldable pub answers : ℕ → List Flit → List FlitKind
answers k [] = []
answers k (f ∷ older) = if is_some (taken_by k f.kind) then [] else if is_answer k f.kind then f.kind ∷ answers k older else answers k older

-- the TxnID whose request is given a DBID
abbrev pub gives : ℕ → FlitKind → Option ℕ
gives d (kind.Response r) = if gives_dbid r.opcode && key r.tgt r.dbid == d then Some (key r.tgt r.txn) else None
gives d _ = None

-- the request to which a DBID was given last
abbrev pub given_or : Option Taken → (ℕ → Option Taken) → Option ℕ → Option Taken
given_or before taken None = before
given_or before taken (Some k) = taken k

unfoldable pub given : ℕ → List Flit → Option Taken
given d [] = None
given d (f ∷ older) = given_or (given d older) (λ k. taken k older) (gives d f.kind)

-- the data that came to it since
abbrev pub sent_by : ℕ → FlitKind → List DataFlit
sent_by d (kind.WriteData w) = if is_write_data w.opcode && key w.node w.txn == d then w ∷ [] else []
sent_by d _ = []

unfoldable pub sent : ℕ → List Flit → List DataFlit
sent d [] = []
sent d (f ∷ older) = if is_some (gives d f.kind) then [] else sent_by d f.kind ++ sent d older

-- a DBID was given to the request that took a TxnID last
abbrev pub is_same : ℕ → Option Taken → Option Taken → Bool
is_same k None given = false
is_same k (Some t) None = false
is_same k (Some t) (Some g) = key g.request.src g.request.txn == k && g.place == t.place

-- write data that write nothing came for the one that took it last
abbrev pub drops_of : ℕ → List Flit → FlitKind → Bool
drops_of k older (kind.WriteData w) = is_write_data w.opcode && drops w && is_same k (taken k older) (given (key w.node w.txn) older)
drops_of k older _ = false

unfoldable pub is_dropped : ℕ → List Flit → Bool
is_dropped k [] = false
is_dropped k (f ∷ older) = if is_some (taken_by k f.kind) then false else drops_of k older f.kind || is_dropped k older

-- tests of an answer
abbrev pub has_response : (ℕ → Bool) → FlitKind → Bool
has_response test (kind.Response r) = test r.opcode
has_response test _ = false

abbrev pub has_quarter : ℕ → FlitKind → Bool
has_quarter c (kind.ReadData d) = is_some (chunk_at d.chunks c)
has_quarter c _ = false

-- what is known of the request that took a TxnID last
abbrev pub transaction : ℕ → List Flit → Option Transaction
transaction k flits = option_map (λ t. record {
  request = t.request;
  place = t.place;
  is_retried = list_any (has_response is_retry) (answers k flits);
  has_dbid = list_any (has_response gives_dbid) (answers k flits);
  is_completed = list_any (has_response is_comp) (answers k flits);
  answered = quarters (λ c. list_any (has_quarter c) (answers k flits));
  is_dropped = is_dropped k flits;
}) (taken k flits)

-- the last of the data at a quarter
abbrev pub last_chunk : ℕ → List DataFlit → Option Chunk
last_chunk c [] = None
last_chunk c (d ∷ older) = option_or (chunk_at d.chunks c) (last_chunk c older)

-- what is known of the data of the request to which a DBID was given last
abbrev pub transfer : ℕ → List Flit → Option Transfer
transfer d flits = option_map (λ t. record {
  request = t.request;
  place = t.place;
  chunks = quarters (λ c. last_chunk c (sent d flits));
  has_cancel = list_any (λ w. is_cancel w.opcode) (sent d flits);
  has_data = list_any (λ w. not (is_cancel w.opcode)) (sent d flits);
  is_dropped = list_any drops (sent d flits);
}) (given d flits)
