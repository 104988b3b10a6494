-- the weights that a text names
use Rattle.std.specs.Prelude.{ℕ, ◌==◌, ◌&&◌, nat_lt, nat_le, if◌then◌else◌, List, [], ◌∷◌, length, map, reverse, Option, None, Some, is_some, Result, Ok, Err, codes}
use Rattle.std.specs.List.{after_first, before_first, filter_map, find, list_all, list_any, position, range_with_len, slice_split}
use Rattle.std.specs.Option.{option_map_or}
use Rattle.std.specs.Str.{all_ascii_digits, byte, bytes_eq}
use Rattle.std.specs.Str.Parse.{digits_value, without_leading_plus}
use Rattle.chi_stimulus.specs.declared.mix.Entry.{Entry}
use Rattle.chi_stimulus.specs.declared.mix.Mix.{Mix}
use Rattle.chi_stimulus.specs.declared.mix.MixFault.{MixFault}

-- the kinds, in the order of their weights
abbrev pub kinds : List (List ℕ)
kinds = codes "read" ∷ codes "write" ∷ codes "store" ∷ codes "load" ∷ codes "swap" ∷ codes "compare" ∷ []

-- the weight that a text writes: a number of at most 1000 as `u16::from_str` reads it, in decimal digits that may follow a +
unfoldable pub weight_in : List ℕ → Option ℕ
weight_in text =
    let digits = without_leading_plus text in
    if nat_lt 0 (length digits) && (all_ascii_digits digits && nat_le (digits_value 10 digits) 1000)
    then Some (digits_value 10 digits)
    else None

-- the entry of a kind and a weight, where both are there
abbrev pub entry_from : Option ℕ → Option ℕ → Option Entry
entry_from (Some kind) (Some weight) = Some (record { kind = kind; weight = weight })
entry_from kind weight = None

-- The entry KIND=WEIGHT that a part of a text is, with the place of its kind: what stands before the first = is a kind, and
-- what follows it a weight. Where there is no =, nothing follows it, which is no weight.
unfoldable pub entry_of : List ℕ → Option Entry
entry_of part =
    entry_from (position (bytes_eq (before_first (λ b. b == byte "=") part)) kinds) (weight_in (after_first (λ b. b == byte "=") part))

-- the weight of a kind: that of the last entry that names it, and 0 where none does
unfoldable pub weight_of : List Entry → ℕ → ℕ
weight_of entries kind = option_map_or (λ entry. entry.weight) (find (λ entry. entry.kind == kind) (reverse entries)) 0

-- the weight of each kind
abbrev pub weights_of : List Entry → List ℕ
weights_of entries = map (weight_of entries) (range_with_len 0 (length kinds))

-- The weights that a text names. It is refused where a part between commas is no entry, or where all weights are 0.
abbrev pub mix_of : List ℕ → Result Mix MixFault
mix_of text =
    let parts = slice_split (λ b. b == byte ",") text in
    let weights = weights_of (filter_map entry_of parts) in
    if list_all (λ part. is_some (entry_of part)) parts && list_any (nat_lt 0) weights
    then Ok (record { weights = weights })
    else Err (record {})
