-- the numbers by which C knows refusals, region faults, kinds and operations
use Rattle.std.specs.Prelude.{ℕ}
use Rattle.chi_fields.specs.declared.kind.Kind.{Kind}
use Rattle.chi_fields.specs.declared.kind.Kind.TheVariants.{Read, Write, Store, Load, Swap, Compare}
use Rattle.chi_fields.specs.declared.refusal.Refusal.{Refusal}
use Rattle.chi_fields.specs.declared.refusal.Refusal.TheVariants.{UnknownOpcode, ReservedSize, SizeOutOfProfile, Misaligned, OutOfRegion, BadByteEnable}
use Rattle.chi_fields.specs.Opcode.{op_number as number_of_op}
use Rattle.chi_fields.specs.declared.region.RegionFault.{RegionFault}
use Rattle.chi_fields.specs.declared.region.RegionFault.TheVariants.{BaseNotLineAligned, GranuleCount, EndPastAddresses}

-- the refusals in their order, from 1 on
abbrev pub refusal_number : Refusal → ℕ
refusal_number UnknownOpcode = 1
refusal_number ReservedSize = 2
refusal_number SizeOutOfProfile = 3
refusal_number Misaligned = 4
refusal_number OutOfRegion = 5
refusal_number BadByteEnable = 6

-- the faults of a region in their order, from 17 on
abbrev pub fault_number : RegionFault → ℕ
fault_number BaseNotLineAligned = 17
fault_number GranuleCount = 18
fault_number EndPastAddresses = 19

abbrev pub kind_number : Kind → ℕ
kind_number Read = 0
kind_number Write = 1
kind_number (Store op) = 2
kind_number (Load op) = 3
kind_number Swap = 4
kind_number Compare = 5

-- the operation of an AtomicStore or AtomicLoad by the low three bits of its opcode, and 8 of the other kinds
abbrev pub op_number : Kind → ℕ
op_number (Store op) = number_of_op op
op_number (Load op) = number_of_op op
op_number _ = 8
