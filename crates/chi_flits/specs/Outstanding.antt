-- the operations of requests that are outstanding at a granule, and what holds one up
use Rattle.std.specs.Prelude.{ℕ, ◌/◌, ◌==◌, Bool, false, not, ◌&&◌, ◌||◌, List}
use Rattle.std.specs.List.{list_any}
use Rattle.std.specs.Option.{option_map_or}
use Rattle.chi_flits.specs.declared.flit.Flit.{Flit}
use Rattle.chi_flits.specs.declared.flit.FlitKind.{FlitKind}
use Rattle.chi_flits.specs.declared.flit.FlitKind.TheVariants as kind
use Rattle.chi_flits.specs.declared.transaction.Transaction.{Transaction}
use Rattle.chi_flits.specs.declared.transfer.Transfer.{Transfer}
use Rattle.chi_flits.specs.Answers.{key}
use Rattle.chi_flits.specs.Faults.{is_answered, is_held, is_over}
use Rattle.chi_flits.specs.History.{transaction, transfer}
use Rattle.chi_flits.specs.Opcodes.{gives_dbid}
use Rattle.chi_flits.specs.Requests.{is_of_granule, is_told, lies_at, needs_data, places_of, quarter_at}

-- the completion of operation i is still to come, or the DBID for its data is
abbrev pub is_unanswered : Transaction → ℕ → Bool
is_unanswered t i = not (t.is_completed || is_answered t (quarter_at t.request i)) || (needs_data t.request && not t.has_dbid)

-- this is so of an operation at the granule, and of one of them
abbrev pub is_unanswered_at : ℕ → Transaction → ℕ → Bool
is_unanswered_at g t i = lies_at g t.request i && is_unanswered t i

abbrev pub has_unanswered : ℕ → Transaction → Bool
has_unanswered g t = list_any (λ i. is_unanswered_at g t i) (places_of t.request)

-- The request is told, and neither retried nor dropped; the home is still to answer an operation of it at the granule.
abbrev pub waits_for_answer : ℕ → Transaction → Bool
waits_for_answer g t = not t.is_dropped && not (is_over t) && is_told t.request && has_unanswered g t

-- The request is told, and not dropped; the data of an operation of it at the granule are still to be told.
abbrev pub waits_for_data : ℕ → Transfer → Bool
waits_for_data g w = not w.is_dropped && is_held w && is_of_granule g w.request

-- the same of the request that holds the TxnID that a flit takes, and of the one that holds the DBID that it gives
abbrev pub taken_waits : ℕ → List Flit → FlitKind → Bool
taken_waits g flits (kind.Request q) = option_map_or (waits_for_answer g) (transaction (key q.src q.txn) flits) false
taken_waits g flits _ = false

abbrev pub given_waits : ℕ → List Flit → FlitKind → Bool
given_waits g flits (kind.Response r) = gives_dbid r.opcode && option_map_or (waits_for_data g) (transfer (key r.tgt r.dbid) flits) false
given_waits g flits _ = false

-- After the flits, of which the newest stands first, an operation at the granule is outstanding: it was told, and neither ended nor
-- was dropped.
unfoldable pub has_outstanding : ℕ → List Flit → Bool
has_outstanding g flits = list_any (λ f. taken_waits g flits f.kind) flits || list_any (λ f. given_waits g flits f.kind) flits

-- The operation with this number is of this request, which is to be given a DBID for its data, and was given none.
abbrev pub lacks_dbid : ℕ → Transaction → Bool
lacks_dbid number t = t.place == number / 8 && needs_data t.request && not t.has_dbid

-- It is of the request that took a TxnID last, of which this is so.
abbrev pub waits_for_dbid : ℕ → ℕ → List Flit → Bool
waits_for_dbid k number flits = option_map_or (lacks_dbid number) (transaction k flits) false
