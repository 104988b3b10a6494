-- The number of each bin, from 0 on, in the order of the bins: bins with the same number are the same.
use Rattle.std.specs.Prelude.{◌≡◌, ℕ, ◌+◌, ◌-◌, ◌*◌, ◌/◌, ◌==◌, Bool, if◌then◌else◌, map}
use Rattle.std.specs.List.{range_with_len}
use Rattle.chi_fields.specs.declared.kind.Kind.{Kind}
use Rattle.chi_fields.specs.declared.kind.Kind.TheVariants.{Read, Write, Store, Load, Swap, Compare}
use Rattle.chi_fields.specs.Opcode.{op_number}
use Rattle.chi_cover.specs.declared.bin.Bin.{Bin}
use Rattle.chi_cover.specs.declared.bin.Bin.TheVariants.{Operand, Comparison, Enables, Kept, ChangedSign, Wrapped, Open, Overlap, Requester, Sequence, LineSequence}
use Rattle.chi_cover.specs.declared.bin.Depth.{Depth}
use Rattle.chi_cover.specs.declared.bin.Depth.TheVariants.{One, Two, UpToFour, UpToEight, More}
use Rattle.chi_cover.specs.declared.bin.Enabled.{Enabled}
use Rattle.chi_cover.specs.declared.bin.Enabled.TheVariants.{NoLane, SomeLanes, AllLanes}
use Rattle.chi_cover.specs.declared.bin.Transaction.{Transaction}
use Rattle.chi_cover.specs.declared.bin.Transaction.TheVariants.{ReadNoSnp, WriteNoSnpPtl, AtomicStore, AtomicLoad, AtomicSwap, AtomicCompare}
use Rattle.chi_cover.specs.Bins.{all_bins}

abbrev pub kind_number : Kind → ℕ
kind_number Read = 0
kind_number Write = 1
kind_number (Store op) = 2 + op_number op
kind_number (Load op) = 10 + op_number op
kind_number Swap = 18
kind_number Compare = 19

-- lengths 1, 2, 4 and 8
abbrev pub length_number : ℕ → ℕ
length_number len = if len == 1 then 0 else if len == 2 then 1 else if len == 4 then 2 else 3

-- an operand's place in a packet: 16 of one byte, 8 of two, 4 of four, and 2 of eight
abbrev pub place_number : ℕ → ℕ → ℕ
place_number len lane = if len == 1 then lane else if len == 2 then 16 + lane / 2 else if len == 4 then 24 + lane / 4 else 28 + lane / 8

abbrev pub enabled_number : Enabled → ℕ
enabled_number NoLane = 0
enabled_number SomeLanes = 1
enabled_number AllLanes = 2

abbrev pub depth_number : Depth → ℕ
depth_number One = 0
depth_number Two = 1
depth_number UpToFour = 2
depth_number UpToEight = 3
depth_number More = 4

abbrev pub transaction_number : Transaction → ℕ
transaction_number ReadNoSnp = 0
transaction_number WriteNoSnpPtl = 1
transaction_number AtomicStore = 2
transaction_number AtomicLoad = 3
transaction_number AtomicSwap = 4
transaction_number AtomicCompare = 5

abbrev pub bit : Bool → ℕ
bit b = if b then 1 else 0

-- of one byte there are two bins of byte enables, so that those of the other lengths begin one earlier
abbrev pub number_of : Bin → ℕ
number_of (Operand kind endian len lane) = 60 * kind_number kind + 30 * bit endian + place_number len lane
number_of (Comparison len upper matched) = 1201 + 4 * length_number len + 2 * bit upper - bit matched
number_of (Enables len enabled) = 1216 + (3 * length_number len + enabled_number enabled - 1)
number_of (Kept op len) = 1227 + 4 * op_number op + length_number len
number_of (ChangedSign op len) = 1259 + 4 * op_number op + length_number len
number_of (Wrapped len) = 1291 + length_number len
number_of (Open depth) = 1295 + depth_number depth
number_of (Overlap earlier later) = 1300 + 6 * transaction_number earlier + transaction_number later
number_of (Requester same) = 1337 - bit same
number_of (Sequence earlier later) = 1338 + 6 * transaction_number earlier + transaction_number later
number_of (LineSequence earlier later) = 1374 + 6 * transaction_number earlier + transaction_number later

-- each number below 1410 is that of one bin
abbrev pub AreNumbered : Type 0
AreNumbered = map number_of all_bins ≡ range_with_len 0 1410
