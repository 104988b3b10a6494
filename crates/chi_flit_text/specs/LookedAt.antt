-- what of a flit is looked at, by its opcode
use Rattle.std.specs.Prelude.{ℕ, ◌&&◌, ◌||◌, not, Bool, true, false, Option, None, Some, Result, Ok, Err}
use Rattle.chi_flits.specs.Opcodes.{is_cancel, is_read, is_write, is_write_data, takes_txn, writes_nothing}
use Rattle.chi_flit_text.specs.declared.fault.FlitLineFault.{FlitLineFault}
use Rattle.chi_flit_text.specs.declared.fault.FlitLineFault.TheVariants.{UnknownDigit}
use Rattle.chi_flit_text.specs.declared.member.FlitMember.{FlitMember}

-- `size` and `addr` of a request
abbrev pub has_addr : ℕ → Bool
has_addr opcode = takes_txn opcode && not (writes_nothing opcode)

-- `excl` of a request; no atomic is exclusive
abbrev pub has_excl : ℕ → Bool
has_excl opcode = is_read opcode || is_write opcode

-- `resp_err` of data to the home
abbrev pub has_write_error : ℕ → Bool
has_write_error opcode = is_write_data opcode && not (is_cancel opcode)

-- the value of a member; one that is not known is a fault where it is looked at, and else 0
abbrev pub looked_at : {A : Type 0} → Bool → FlitMember → A → Option A → Result A FlitLineFault
looked_at is_looked_at m zero (Some n) = Ok n
looked_at true m zero None = Err (UnknownDigit m)
looked_at false m zero None = Ok zero
