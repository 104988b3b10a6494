-- the bins of a table of coverage, group by group
use Rattle.std.specs.Prelude.{ℕ, ◌%◌, ◌==◌, Bool, true, false, if◌then◌else◌, List, [], ◌∷◌, ◌++◌, flat_map, map}
use Rattle.std.specs.List.{filter, range_with_len}
use Rattle.chi_fields.specs.declared.kind.Kind.{Kind}
use Rattle.chi_fields.specs.declared.kind.Kind.TheVariants.{Read, Write, Store, Load, Swap, Compare}
use Rattle.chi_fields.specs.declared.kind.Op.{Op}
use Rattle.chi_fields.specs.Opcode.{all_ops}
use Rattle.chi_cover.specs.declared.bin.Bin.{Bin}
use Rattle.chi_cover.specs.declared.bin.Bin.TheVariants.{Operand, Comparison, Enables, Kept, ChangedSign, Wrapped, Open, Overlap, Requester, Sequence, LineSequence}
use Rattle.chi_cover.specs.declared.bin.Depth.TheVariants.{One, Two, UpToFour, UpToEight, More}
use Rattle.chi_cover.specs.declared.bin.Enabled.{Enabled}
use Rattle.chi_cover.specs.declared.bin.Enabled.TheVariants.{NoLane, SomeLanes, AllLanes}
use Rattle.chi_cover.specs.declared.bin.Transaction.{Transaction}
use Rattle.chi_cover.specs.declared.bin.Transaction.TheVariants.{ReadNoSnp, WriteNoSnpPtl, AtomicStore, AtomicLoad, AtomicSwap, AtomicCompare}

-- the lengths of an operand, and the lanes at which one of a length begins: the multiples of its length
abbrev pub lengths : List ℕ
lengths = 1 ∷ 2 ∷ 4 ∷ 8 ∷ []

unfoldable pub lanes_of : ℕ → List ℕ
lanes_of len = filter (λ lane. lane % len == 0) (range_with_len 0 16)

-- little-endian and big-endian; and a test that fails or holds
abbrev pub no_and_yes : List Bool
no_and_yes = false ∷ true ∷ []

abbrev pub yes_and_no : List Bool
yes_and_no = true ∷ false ∷ []

abbrev pub all_kinds : List Kind
all_kinds = Read ∷ Write ∷ (map Store all_ops ++ (map Load all_ops ++ Swap ∷ Compare ∷ []))

abbrev pub all_transactions : List Transaction
all_transactions = ReadNoSnp ∷ WriteNoSnpPtl ∷ AtomicStore ∷ AtomicLoad ∷ AtomicSwap ∷ AtomicCompare ∷ []

-- of one byte none is enabled, or all are
abbrev pub enabled_of : ℕ → List Enabled
enabled_of len = if len == 1 then NoLane ∷ AllLanes ∷ [] else NoLane ∷ SomeLanes ∷ AllLanes ∷ []

-- the bins of a kind, a byte order and a length, by the lane; then all of a kind and a byte order, and all of a kind
abbrev pub lane_bins : Kind → Bool → ℕ → List Bin
lane_bins kind endian len = map (Operand kind endian len) (lanes_of len)

abbrev pub length_bins : Kind → Bool → List Bin
length_bins kind endian = flat_map (lane_bins kind endian) lengths

abbrev pub kind_bins : Kind → List Bin
kind_bins kind = flat_map (length_bins kind) no_and_yes

unfoldable pub operation_bins : List Bin
operation_bins = flat_map kind_bins all_kinds

-- the bins of the AtomicCompares of a length
abbrev pub half_bins : ℕ → List Bin
half_bins len = Comparison len false true ∷ Comparison len false false ∷ Comparison len true true ∷ Comparison len true false ∷ []

abbrev pub comparison_bins : List Bin
comparison_bins = flat_map half_bins lengths

abbrev pub enables_of : ℕ → List Bin
enables_of len = map (Enables len) (enabled_of len)

abbrev pub enables_bins : List Bin
enables_bins = flat_map enables_of lengths

abbrev pub kept_of : Op → List Bin
kept_of op = map (Kept op) lengths

abbrev pub sign_of : Op → List Bin
sign_of op = map (ChangedSign op) lengths

abbrev pub result_bins : List Bin
result_bins = flat_map kept_of all_ops ++ (flat_map sign_of all_ops ++ map Wrapped lengths)

abbrev pub open_bins : List Bin
open_bins = map Open (One ∷ Two ∷ UpToFour ∷ UpToEight ∷ More ∷ [])

abbrev pub later_bins : Transaction → List Bin
later_bins earlier = map (Overlap earlier) all_transactions

abbrev pub overlap_bins : List Bin
overlap_bins = flat_map later_bins all_transactions

abbrev pub requester_bins : List Bin
requester_bins = map Requester yes_and_no

abbrev pub after_bins : Transaction → List Bin
after_bins earlier = map (Sequence earlier) all_transactions

abbrev pub sequence_bins : List Bin
sequence_bins = flat_map after_bins all_transactions

abbrev pub line_after_bins : Transaction → List Bin
line_after_bins earlier = map (LineSequence earlier) all_transactions

abbrev pub line_sequence_bins : List Bin
line_sequence_bins = flat_map line_after_bins all_transactions

-- all bins
unfoldable pub all_bins : List Bin
all_bins =
    operation_bins ++ (comparison_bins ++ (enables_bins ++ (result_bins ++ (open_bins ++ (overlap_bins ++ (requester_bins ++ (sequence_bins ++ line_sequence_bins)))))))
