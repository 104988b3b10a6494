-- the table of a coverage, as a text
use Rattle.std.specs.Prelude.{ℕ, ◌==◌, Bool, true, false, if◌then◌else◌, List, [], ◌++◌, codes, decimal, flat_map, Option, Some}
use Rattle.chi_fields.specs.Opcode.{all_ops, kind_name}
use Rattle.chi_fields.specs.declared.kind.Kind.{Kind}
use Rattle.chi_fields.specs.declared.kind.Kind.TheVariants.{Load}
use Rattle.chi_fields.specs.declared.kind.Op.{Op}
use Rattle.chi_cover.specs.declared.bin.Bin.{Bin}
use Rattle.chi_cover.specs.declared.bin.Bin.TheVariants.{Operand, Comparison, Enables, Kept, ChangedSign, Wrapped}
use Rattle.chi_cover.specs.declared.bin.Enabled.TheVariants.{NoLane, SomeLanes, AllLanes}
use Rattle.chi_cover.specs.declared.bin.Transaction.TheVariants.{WriteNoSnpPtl, AtomicCompare}
use Rattle.chi_cover.specs.Bins.{all_bins, all_kinds, comparison_bins, enables_bins, lanes_of, lengths, line_sequence_bins, open_bins, operation_bins, overlap_bins, requester_bins, result_bins, sequence_bins}
use Rattle.chi_cover.specs.Counts.{covered_of, percent_of, wanted_of}
use Rattle.chi_cover.specs.Operations.{is_add}
use Rattle.chi_cover.specs.Names.{order_text, row_name}
use Rattle.chi_cover.specs.Plan.{PlanValue, goal_in}
use Rattle.chi_cover.specs.PlanTexts.{bin_line, rules_text}

-- the head of a group: its name, and how many of its bins that have a goal are covered
unfoldable pub head_text : (Bin → Option ℕ) → (Bin → ℕ) → List ℕ → List Bin → List ℕ
head_text goals counts name bins =
    name ++ (codes ": " ++ (decimal (covered_of goals counts bins) ++ (codes " of " ++ (decimal (wanted_of goals bins) ++ codes "\n"))))

-- the counts of a kind, a byte order and a length, by the lane
abbrev pub lane_text : (Bin → ℕ) → Kind → Bool → ℕ → ℕ → List ℕ
lane_text counts kind endian len lane = codes " " ++ decimal (counts (Operand kind endian len lane))

unfoldable pub operation_row : (Bin → ℕ) → Kind → Bool → ℕ → List ℕ
operation_row counts kind endian len =
    kind_name (Some kind) ++ (codes " " ++ (order_text endian ++ (codes " " ++ (decimal len ++ (codes ":"
    ++ (flat_map (lane_text counts kind endian len) (lanes_of len) ++ codes "\n"))))))

unfoldable pub order_rows : (Bin → ℕ) → Kind → Bool → List ℕ
order_rows counts kind endian = flat_map (operation_row counts kind endian) lengths

unfoldable pub kind_rows : (Bin → ℕ) → Kind → List ℕ
kind_rows counts kind = order_rows counts kind false ++ order_rows counts kind true

-- the counts of the AtomicCompares of a length
unfoldable pub comparison_row : (Bin → ℕ) → ℕ → List ℕ
comparison_row counts len =
    codes "AtomicCompare " ++ (decimal len
    ++ (codes ": lower matched " ++ (decimal (counts (Comparison len false true))
    ++ (codes ", lower failed " ++ (decimal (counts (Comparison len false false))
    ++ (codes ", upper matched " ++ (decimal (counts (Comparison len true true))
    ++ (codes ", upper failed " ++ (decimal (counts (Comparison len true false)) ++ codes "\n")))))))))

-- the counts of the writes of a length
abbrev pub some_text : (Bin → ℕ) → ℕ → List ℕ
some_text counts len = if len == 1 then [] else codes "some " ++ (decimal (counts (Enables len SomeLanes)) ++ codes ", ")

unfoldable pub enables_row : (Bin → ℕ) → ℕ → List ℕ
enables_row counts len =
    (codes "WriteNoSnpPtl " ++ (decimal len ++ (codes ": none " ++ (decimal (counts (Enables len NoLane)) ++ codes ", "))))
    ++ (some_text counts len ++ (codes "all " ++ (decimal (counts (Enables len AllLanes)) ++ codes "\n")))

-- the counts of the results of an operation at a length
abbrev pub wrapped_text : (Bin → ℕ) → Op → ℕ → List ℕ
wrapped_text counts op len = if is_add op then codes ", wrapped " ++ (decimal (counts (Wrapped len)) ++ codes "\n") else codes "\n"

unfoldable pub result_row : (Bin → ℕ) → Op → ℕ → List ℕ
result_row counts op len =
    (kind_name (Some (Load op)) ++ (codes " " ++ (decimal len ++ (codes ": kept " ++ (decimal (counts (Kept op len)) ++ (codes ", changed sign "
    ++ decimal (counts (ChangedSign op len))))))))
    ++ wrapped_text counts op len

unfoldable pub op_rows : (Bin → ℕ) → Op → List ℕ
op_rows counts op = flat_map (result_row counts op) lengths

-- the row of one bin of traffic or of sequences, which stands below the head of its group
unfoldable pub traffic_row : (Bin → ℕ) → Bin → List ℕ
traffic_row counts bin = row_name bin ++ (codes ": " ++ (decimal (counts bin) ++ codes "\n"))

-- the goal of all bins, where it is another than one operation
abbrev pub goal_text : ℕ → List ℕ
goal_text goal = if goal == 1 then [] else codes ", each at least " ++ decimal goal

-- how many bins that have a goal are covered, and the goal of all
unfoldable pub covered_line : PlanValue → (Bin → ℕ) → List ℕ
covered_line plan counts =
    codes "covered: " ++ (decimal (covered_of (goal_in plan) counts all_bins) ++ (codes " of " ++ (decimal (wanted_of (goal_in plan) all_bins) ++ (codes " ("
    ++ (decimal (percent_of (goal_in plan) counts) ++ (codes "%)" ++ (goal_text plan.goal ++ codes "\n")))))))

-- the groups of bins of operations, and those of traffic and of sequences
unfoldable pub operations_text : (Bin → Option ℕ) → (Bin → ℕ) → List ℕ
operations_text goals counts =
    head_text goals counts (codes "operations") operation_bins ++ (flat_map (kind_rows counts) all_kinds
    ++ (head_text goals counts (codes "compares") comparison_bins ++ (flat_map (comparison_row counts) lengths
    ++ (head_text goals counts (codes "writes") enables_bins ++ (flat_map (enables_row counts) lengths
    ++ (head_text goals counts (codes "results") result_bins ++ flat_map (op_rows counts) all_ops))))))

abbrev pub group_text : (Bin → Option ℕ) → (Bin → ℕ) → List ℕ → List Bin → List ℕ
group_text goals counts name bins = head_text goals counts name bins ++ flat_map (traffic_row counts) bins

unfoldable pub traffic_text : (Bin → Option ℕ) → (Bin → ℕ) → List ℕ
traffic_text goals counts =
    group_text goals counts (codes "open at once") open_bins ++ (group_text goals counts (codes "overlaps") overlap_bins
    ++ (group_text goals counts (codes "requesters") requester_bins ++ (group_text goals counts (codes "sequences") sequence_bins
    ++ group_text goals counts (codes "line sequences") line_sequence_bins)))

-- the table: the groups, how many bins are covered, the rules of the plan, and the bins of which there is more to say
unfoldable pub table_text : PlanValue → (Bin → ℕ) → List ℕ
table_text plan counts =
    operations_text (goal_in plan) counts ++ (traffic_text (goal_in plan) counts ++ (covered_line plan counts ++ (rules_text plan.rules
    ++ flat_map (bin_line (goal_in plan) counts) all_bins)))
