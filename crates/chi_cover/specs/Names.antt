-- the names of bins
use Rattle.std.specs.Prelude.{ℕ, ◌==◌, Bool, if◌then◌else◌, List, ◌++◌, codes, decimal, Some}
use Rattle.chi_fields.specs.Opcode.{kind_name}
use Rattle.chi_fields.specs.declared.kind.Kind.TheVariants.{Load}
use Rattle.chi_fields.specs.declared.kind.Op.TheVariants.{Add}
use Rattle.chi_cover.specs.declared.bin.Bin.{Bin}
use Rattle.chi_cover.specs.declared.bin.Bin.TheVariants.{Operand, Comparison, Enables, Kept, ChangedSign, Wrapped, Open, Overlap, Requester, Sequence, LineSequence}
use Rattle.chi_cover.specs.declared.bin.Depth.{Depth}
use Rattle.chi_cover.specs.declared.bin.Depth.TheVariants.{One, Two, UpToFour, UpToEight, More}
use Rattle.chi_cover.specs.declared.bin.Enabled.{Enabled}
use Rattle.chi_cover.specs.declared.bin.Enabled.TheVariants.{NoLane, SomeLanes, AllLanes}
use Rattle.chi_cover.specs.declared.bin.Transaction.{Transaction}
use Rattle.chi_cover.specs.declared.bin.Transaction.TheVariants.{ReadNoSnp, WriteNoSnpPtl, AtomicStore, AtomicLoad, AtomicSwap, AtomicCompare}

abbrev pub depth_text : Depth → List ℕ
depth_text One = codes "open 1"
depth_text Two = codes "open 2"
depth_text UpToFour = codes "open 3 to 4"
depth_text UpToEight = codes "open 5 to 8"
depth_text More = codes "open more than 8"

abbrev pub enabled_text : Enabled → List ℕ
enabled_text NoLane = codes "none"
enabled_text SomeLanes = codes "some"
enabled_text AllLanes = codes "all"

abbrev pub transaction_text : Transaction → List ℕ
transaction_text ReadNoSnp = codes "ReadNoSnp"
transaction_text WriteNoSnpPtl = codes "WriteNoSnpPtl"
transaction_text AtomicStore = codes "AtomicStore"
transaction_text AtomicLoad = codes "AtomicLoad"
transaction_text AtomicSwap = codes "AtomicSwap"
transaction_text AtomicCompare = codes "AtomicCompare"

abbrev pub half_text : Bool → List ℕ
half_text upper = if upper then codes "upper" else codes "lower"

abbrev pub matched_text : Bool → List ℕ
matched_text matched = if matched then codes "matched" else codes "failed"

abbrev pub order_text : Bool → List ℕ
order_text endian = if endian then codes "big" else codes "little"

abbrev pub bytes_text : ℕ → List ℕ
bytes_text len = if len == 1 then codes "1 byte" else decimal len ++ codes " bytes"

abbrev pub overlap_text : Transaction → Transaction → List ℕ
overlap_text earlier later = transaction_text later ++ (codes " while " ++ (transaction_text earlier ++ codes " was open"))

abbrev pub sequence_text : Transaction → Transaction → List ℕ
sequence_text earlier later = transaction_text later ++ (codes " after " ++ transaction_text earlier)

abbrev pub requester_text : Bool → List ℕ
requester_text same = if same then codes "of the same requester" else codes "of another requester"

-- the name of a bin by itself
abbrev pub bin_name : Bin → List ℕ
bin_name (Operand kind endian len lane) =
    kind_name (Some kind) ++ (codes ", " ++ (order_text endian ++ (codes "-endian, " ++ (bytes_text len ++ (codes ", lane " ++ decimal lane)))))
bin_name (Comparison len upper matched) =
    codes "AtomicCompare, " ++ (bytes_text len ++ (codes ", compare value in the " ++ (half_text upper ++ (codes " half, " ++ matched_text matched))))
bin_name (Enables len enabled) = codes "WriteNoSnpPtl, " ++ (bytes_text len ++ (codes ", byte enables: " ++ enabled_text enabled))
bin_name (Kept op len) = kind_name (Some (Load op)) ++ (codes ", " ++ (bytes_text len ++ codes ", kept"))
bin_name (ChangedSign op len) = kind_name (Some (Load op)) ++ (codes ", " ++ (bytes_text len ++ codes ", changed sign"))
bin_name (Wrapped len) = kind_name (Some (Load Add)) ++ (codes ", " ++ (bytes_text len ++ codes ", wrapped"))
bin_name (Open depth) = depth_text depth
bin_name (Overlap earlier later) = overlap_text earlier later
bin_name (Requester same) = codes "an overlap with an earlier operation " ++ requester_text same
bin_name (Sequence earlier later) = sequence_text earlier later
bin_name (LineSequence earlier later) = sequence_text earlier later ++ codes " on the line"

-- the row of one bin of traffic or of sequences, which stands below the head of its group
abbrev pub row_name : Bin → List ℕ
row_name (Requester same) = requester_text same
row_name bin = bin_name bin
