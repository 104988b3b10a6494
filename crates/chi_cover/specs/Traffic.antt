-- the bins of an operation among the others of its granule
use Rattle.std.specs.Prelude.{ℕ, ◌+◌, ◌==◌, nat_le, nat_lt, not, ◌&&◌, Bool, if◌then◌else◌, List, ◌∷◌, ◌++◌, length, map}
use Rattle.std.specs.List.{filter, list_any, range_with_len}
use Rattle.chi_fields.specs.Access.{Access}
use Rattle.chi_fields.specs.declared.kind.Kind.{Kind}
use Rattle.chi_fields.specs.declared.kind.Kind.TheVariants.{Read, Write, Store, Load, Swap, Compare}
use Rattle.chi_trace.specs.declared.operation.Operation.{Operation}
use Rattle.chi_trace.specs.Explains.{at}
use Rattle.chi_trace.specs.Granules.{granule_of}
use Rattle.chi_cover.specs.declared.bin.Bin.{Bin}
use Rattle.chi_cover.specs.declared.bin.Bin.TheVariants.{Open, Overlap, Requester}
use Rattle.chi_cover.specs.declared.bin.Depth.{Depth}
use Rattle.chi_cover.specs.declared.bin.Depth.TheVariants.{One, Two, UpToFour, UpToEight, More}
use Rattle.chi_cover.specs.declared.bin.Transaction.{Transaction}
use Rattle.chi_cover.specs.declared.bin.Transaction.TheVariants.{ReadNoSnp, WriteNoSnpPtl, AtomicStore, AtomicLoad, AtomicSwap, AtomicCompare}
use Rattle.chi_cover.specs.Bins.{all_transactions, yes_and_no}
use Rattle.chi_cover.specs.Numbers.{transaction_number}

abbrev pub transaction_of : Kind → Transaction
transaction_of Read = ReadNoSnp
transaction_of Write = WriteNoSnpPtl
transaction_of (Store op) = AtomicStore
transaction_of (Load op) = AtomicLoad
transaction_of Swap = AtomicSwap
transaction_of Compare = AtomicCompare

-- the operation is one of a granule and had not ended before a time
abbrev pub is_open : ℕ → ℕ → Operation → Bool
is_open granule time op = granule_of op == granule && nat_le time op.end

-- the first so many places, of which the operations are of a granule and had not ended before a time
unfoldable pub open_among : List Operation → ℕ → ℕ → ℕ → List ℕ
open_among trace n granule time = filter (λ j. is_open granule time (at trace j)) (range_with_len 0 n)

-- the operations of its granule that stand before an operation in the trace, and had not ended before it started
abbrev pub open_before : List Operation → ℕ → List ℕ
open_before trace i = open_among trace i (granule_of (at trace i)) (at trace i).start

-- so many operations, from one on
abbrev pub depth_of : ℕ → Depth
depth_of n = if nat_le n 1 then One else if n == 2 then Two else if nat_le n 4 then UpToFour else if nat_le n 8 then UpToEight else More

-- how many operations of its granule were open when it started: those before it, and itself
abbrev pub open_bin : List Operation → ℕ → Bin
open_bin trace i = Open (depth_of (length (open_before trace i) + 1))

-- their operands have a byte in common
abbrev pub have_common_byte : Access → Access → Bool
have_common_byte a b = nat_lt a.addr (b.addr + b.len) && nat_lt b.addr (a.addr + a.len)

-- those of the open ones whose operand has a byte in common with the operation's
abbrev pub overlapping : List Operation → ℕ → List ℕ
overlapping trace i = filter (λ j. have_common_byte (at trace j).access (at trace i).access) (open_before trace i)

-- some operation at these places is of a transaction
abbrev pub has_transaction : List Operation → List ℕ → Transaction → Bool
has_transaction trace places t = list_any (λ j. transaction_number (transaction_of (at trace j).access.kind) == transaction_number t) places

-- some operation at these places is of a requester, or some is of another
abbrev pub has_requester : List Operation → List ℕ → ℕ → Bool → Bool
has_requester trace places src same = list_any (λ j. if same then (at trace j).src == src else not ((at trace j).src == src)) places

-- the bin of each transaction that one of them is of, and of a later one
abbrev pub overlap_bins_at : List Operation → ℕ → List ℕ → List Bin
overlap_bins_at trace i places = map (λ t. Overlap t (transaction_of (at trace i).access.kind)) (filter (has_transaction trace places) all_transactions)

abbrev pub requester_bins_at : List Operation → ℕ → List ℕ → List Bin
requester_bins_at trace i places = map Requester (filter (has_requester trace places (at trace i).src) yes_and_no)

-- the bins of the operation at a place, by those that were open when it started
unfoldable pub traffic_bins : List Operation → ℕ → List Bin
traffic_bins trace i = open_bin trace i ∷ (overlap_bins_at trace i (overlapping trace i) ++ requester_bins_at trace i (overlapping trace i))
