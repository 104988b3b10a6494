-- what an opcode says, by the channel of its flit
use Rattle.std.specs.Prelude.{ℕ, ◌==◌, nat_le, Bool, not, ◌&&◌, ◌||◌}

-- ---- requests

-- all but ReqLCrdReturn, PCrdReturn and PrefetchTgt
abbrev pub takes_txn : ℕ → Bool
takes_txn opcode = not (opcode == 0x00 || opcode == 0x05 || opcode == 0x3a)

-- ReadShared, ReadClean, ReadOnce, Evict, DVMOp, StashOnceShared, StashOnceUnique, ReadOnceCleanInvalid and ReadNotSharedDirty
abbrev pub writes_nothing : ℕ → Bool
writes_nothing opcode =
    opcode == 0x01 || opcode == 0x02 || opcode == 0x03 || opcode == 0x0d || opcode == 0x14 || opcode == 0x22 || opcode == 0x23 || opcode == 0x24 || opcode == 0x26

-- ReadNoSnp
abbrev pub is_read : ℕ → Bool
is_read opcode = opcode == 0x04

-- WriteNoSnpPtl, WriteNoSnpFull
abbrev pub is_write : ℕ → Bool
is_write opcode = opcode == 0x1c || opcode == 0x1d

-- AtomicStore, AtomicLoad, AtomicSwap, AtomicCompare
abbrev pub is_atomic : ℕ → Bool
is_atomic opcode = nat_le 0x28 opcode && nat_le opcode 0x39

-- AtomicCompare, whose data are a compare value and a swap value
abbrev pub is_compare : ℕ → Bool
is_compare opcode = opcode == 0x39

-- ---- responses

-- RetryAck, Comp, CompDBIDResp, DBIDResp
abbrev pub is_response : ℕ → Bool
is_response opcode = nat_le 3 opcode && nat_le opcode 6

abbrev pub is_retry : ℕ → Bool
is_retry opcode = opcode == 3

-- Comp, CompDBIDResp
abbrev pub is_comp : ℕ → Bool
is_comp opcode = opcode == 4 || opcode == 5

-- CompDBIDResp, DBIDResp
abbrev pub gives_dbid : ℕ → Bool
gives_dbid opcode = opcode == 5 || opcode == 6

-- ---- data

-- CompData
abbrev pub is_read_data : ℕ → Bool
is_read_data opcode = opcode == 4

-- NonCopyBackWrData, WriteDataCancel
abbrev pub is_write_data : ℕ → Bool
is_write_data opcode = opcode == 3 || opcode == 7

abbrev pub is_cancel : ℕ → Bool
is_cancel opcode = opcode == 7
