-- how many operations of a trace each bin counts
use Rattle.std.specs.Prelude.{◌≡◌, ℕ, ◌+◌, ◌-◌, ◌*◌, ◌/◌, ◌^◌, ◌==◌, nat_le, Bool, false, if◌then◌else◌, List, ◌++◌, Contains, count_by, flat_map, is_some, length, min, slice_index, Option, None, Some}
use Rattle.std.specs.List.{range_with_len}
use Rattle.chi_trace.specs.declared.operation.Operation.{Operation}
use Rattle.chi_trace.specs.Explains.{at}
use Rattle.chi_cover.specs.declared.bin.Bin.{Bin}
use Rattle.chi_cover.specs.Bins.{all_bins}
use Rattle.chi_cover.specs.Numbers.{number_of}
use Rattle.chi_cover.specs.Operations.{own_bins}
use Rattle.chi_cover.specs.Sequences.{sequence_bins_at}
use Rattle.chi_cover.specs.Traffic.{traffic_bins}

-- the bins that count the operation at a place, each once
abbrev pub bins_at : List Operation → ℕ → List Bin
bins_at trace i = own_bins (at trace i) ++ (traffic_bins trace i ++ sequence_bins_at trace i)

-- how often a bin stands in a list
abbrev pub times_of : Bin → List Bin → ℕ
times_of bin bins = count_by (λ b. number_of b == number_of bin) bins

-- how many operations of a trace a bin counts
unfoldable pub count_of : List Operation → Bin → ℕ
count_of trace bin = times_of bin (flat_map (bins_at trace) (range_with_len 0 (length trace)))

-- the greatest count, which stands for that many and more
abbrev pub most : ℕ
most = 2 ^ 64 - 1

-- The counts of a table, in the order of the bins' numbers: the count of a bin.
unfoldable pub count_in : List ℕ → Bin → ℕ
count_in counts bin = slice_index counts (number_of bin)

-- each bin's new count is its old one and how many operations of the trace it counts
abbrev pub IsAdded : List Operation → List ℕ → List ℕ → Type 0
IsAdded trace old new = (bin : Bin) → Contains all_bins bin → count_in new bin ≡ min (count_in old bin + count_of trace bin) most

-- a bin has counted as many operations as its goal; one that is excluded has none
abbrev pub is_covered : Option ℕ → ℕ → Bool
is_covered None count = false
is_covered (Some goal) count = nat_le goal count

-- how many of these bins are covered
abbrev pub covered_of : (Bin → Option ℕ) → (Bin → ℕ) → List Bin → ℕ
covered_of goals counts bins = count_by (λ bin. is_covered (goals bin) (counts bin)) bins

-- how many of these bins have a goal
abbrev pub wanted_of : (Bin → Option ℕ) → List Bin → ℕ
wanted_of goals bins = count_by (λ bin. is_some (goals bin)) bins

-- how many of a hundred bins with a goal are covered, rounded down; of none all are
abbrev pub percent_of : (Bin → Option ℕ) → (Bin → ℕ) → ℕ
percent_of goals counts = if wanted_of goals all_bins == 0 then 100 else covered_of goals counts all_bins * 100 / wanted_of goals all_bins
