-- the bins of an operation and the one before it on its granule, or on its line
use Rattle.std.specs.Prelude.{ℕ, ◌-◌, ◌/◌, ◌==◌, nat_lt, not, ◌&&◌, Bool, if◌then◌else◌, List, ◌++◌, Option, None, Some, length, slice_get}
use Rattle.std.specs.List.{filter, range_with_len}
use Rattle.std.specs.Option.{option_and_then}
use Rattle.chi_trace.specs.declared.operation.Operation.{Operation}
use Rattle.chi_trace.specs.Explains.{at}
use Rattle.chi_trace.specs.Granules.{granule_of}
use Rattle.chi_cover.specs.declared.bin.Bin.{Bin}
use Rattle.chi_cover.specs.declared.bin.Bin.TheVariants.{Sequence, LineSequence}
use Rattle.chi_cover.specs.Operations.{those}
use Rattle.chi_cover.specs.Traffic.{transaction_of}

-- the number of the operation's line of 64 bytes, counted from address 0
abbrev pub line_of : Operation → ℕ
line_of op = granule_of op / 8

-- the first so many places, of which the operations have a key: the number of their granule, or of their line
abbrev pub places_with : (Operation → ℕ) → ℕ → List Operation → ℕ → List ℕ
places_with key k trace n = filter (λ j. key (at trace j) == k) (range_with_len 0 n)

-- the last of them, if there is one
unfoldable pub last_with : (Operation → ℕ) → ℕ → List Operation → ℕ → Option ℕ
last_with key k trace n = slice_get (places_with key k trace n) (length (places_with key k trace n) - 1)

-- the place of the operation before one, of those with its key
abbrev pub before : (Operation → ℕ) → List Operation → ℕ → Option ℕ
before key trace i = last_with key (key (at trace i)) trace i

-- an operation had ended before another started
abbrev pub ends_before : Operation → Operation → Bool
ends_before earlier later = nat_lt earlier.end later.start

-- the bin of an operation after another of its granule, which had ended before
abbrev pub sequence_of : Operation → Operation → Option Bin
sequence_of earlier later =
    if ends_before earlier later then Some (Sequence (transaction_of earlier.access.kind) (transaction_of later.access.kind)) else None

-- the bin of an operation after another of its line, which had ended before and is of another granule
abbrev pub line_sequence_of : Operation → Operation → Option Bin
line_sequence_of earlier later =
    if ends_before earlier later && not (granule_of earlier == granule_of later)
    then Some (LineSequence (transaction_of earlier.access.kind) (transaction_of later.access.kind)) else None

-- the same of the operation at a place, by the place of the other, if there is one
abbrev pub sequence_from : List Operation → ℕ → Option ℕ → Option Bin
sequence_from trace i place = option_and_then (λ j. sequence_of (at trace j) (at trace i)) place

abbrev pub line_sequence_from : List Operation → ℕ → Option ℕ → Option Bin
line_sequence_from trace i place = option_and_then (λ j. line_sequence_of (at trace j) (at trace i)) place

-- the bins of the operation at a place: after the one before it on its granule, and after the one before it on its line
abbrev pub sequence_bin : List Operation → ℕ → Option Bin
sequence_bin trace i = sequence_from trace i (before granule_of trace i)

abbrev pub line_sequence_bin : List Operation → ℕ → Option Bin
line_sequence_bin trace i = line_sequence_from trace i (before line_of trace i)

abbrev pub sequence_bins_at : List Operation → ℕ → List Bin
sequence_bins_at trace i = those (sequence_bin trace i) ++ those (line_sequence_bin trace i)
