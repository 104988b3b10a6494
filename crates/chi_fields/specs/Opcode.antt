-- the opcodes and their names
use Rattle.std.specs.Prelude.{ℕ, ◌-◌, ◌==◌, nat_le, ◌&&◌, if◌then◌else◌, List, [], ◌∷◌, ◌++◌, codes, slice_index_or, Option, None, Some}
use Rattle.chi_fields.specs.declared.kind.Op.{Op}
use Rattle.chi_fields.specs.declared.kind.Op.TheVariants.{Add, Clr, Eor, Set, SMax, SMin, UMax, UMin}
use Rattle.chi_fields.specs.declared.kind.Kind.{Kind}
use Rattle.chi_fields.specs.declared.kind.Kind.TheVariants.{Read, Write, Store, Load, Swap, Compare}

-- the number and the name of each operation: the low three bits of its opcode, and how the opcode's name ends
abbrev pub op_entry : Op → ℕ × List ℕ
op_entry Add = (0, codes "ADD")
op_entry Clr = (1, codes "CLR")
op_entry Eor = (2, codes "EOR")
op_entry Set = (3, codes "SET")
op_entry SMax = (4, codes "SMAX")
op_entry SMin = (5, codes "SMIN")
op_entry UMax = (6, codes "UMAX")
op_entry UMin = (7, codes "UMIN")

abbrev pub op_number : Op → ℕ
op_number op = (op_entry op).0

abbrev pub operation_name : Op → List ℕ
operation_name op = (op_entry op).1

-- the operations in the order of their numbers
abbrev pub all_ops : List Op
all_ops = Add ∷ Clr ∷ Eor ∷ Set ∷ SMax ∷ SMin ∷ UMax ∷ UMin ∷ []

-- the operation that the low three bits of an AtomicStore or AtomicLoad name
abbrev pub numbered_op : ℕ → Op
numbered_op n = slice_index_or all_ops n UMin

-- the kind of request that an opcode names
abbrev pub kind_of : ℕ → Option Kind
kind_of opcode =
    if opcode == 0x04 then Some Read
    else if opcode == 0x1c then Some Write
    else if nat_le 0x28 opcode && nat_le opcode 0x2f then Some (Store (numbered_op (opcode - 0x28)))
    else if nat_le 0x30 opcode && nat_le opcode 0x37 then Some (Load (numbered_op (opcode - 0x30)))
    else if opcode == 0x38 then Some Swap
    else if opcode == 0x39 then Some Compare
    else None

abbrev pub kind_name : Option Kind → List ℕ
kind_name None = codes "Unknown"
kind_name (Some Read) = codes "ReadNoSnp"
kind_name (Some Write) = codes "WriteNoSnpPtl"
kind_name (Some (Store op)) = codes "AtomicStore." ++ operation_name op
kind_name (Some (Load op)) = codes "AtomicLoad." ++ operation_name op
kind_name (Some Swap) = codes "AtomicSwap"
kind_name (Some Compare) = codes "AtomicCompare"

-- the name of an opcode
abbrev pub opcode_name : ℕ → List ℕ
opcode_name opcode = kind_name (kind_of opcode)
