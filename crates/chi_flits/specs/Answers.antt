-- what follows a request: whose it is, whether it tells an error, and its data
use Rattle.std.specs.Prelude.{ℕ, ◌+◌, ◌*◌, nat_le, Bool, ◌||◌, List, [], ◌∷◌, Option, None, slice_index_or}
use Rattle.chi_flits.specs.declared.flit.Chunk.{Chunk}
use Rattle.chi_flits.specs.declared.flit.DataFlit.{DataFlit}
use Rattle.chi_flits.specs.Opcodes.{is_cancel}

-- a node, and a TxnID or a DBID, as one number
abbrev pub key : ℕ → ℕ → ℕ
key node number = node * 65536 + number

-- DERR, NDERR
abbrev pub is_error : ℕ → Bool
is_error resp_err = nat_le 2 resp_err

-- write data that write nothing
abbrev pub drops : DataFlit → Bool
drops d = is_cancel d.opcode || is_error d.resp_err

-- what is at each quarter of a line of 64 bytes
abbrev pub quarters : {A : Type 0} → (ℕ → A) → List A
quarters f = f 0 ∷ f 1 ∷ f 2 ∷ f 3 ∷ []

abbrev pub chunk_at : List (Option Chunk) → ℕ → Option Chunk
chunk_at chunks c = slice_index_or chunks c None
