-- what `clap` found
use Rattle.std.specs.Prelude.{◌≡◌, ℕ, Bool, false, ◌∷◌, List, Option, Some, None, Result}
use Rattle.std.specs.Option.{option_map_or}
use Rattle.std.specs.Result.{result_ok, result_unwrap_or}
use Rattle.std.specs.Str.{bytes_eq}
use Rattle.std.specs.Str.Parse.{ParsesUnsigned}
use Rattle.clap.specs.Walk.{Row, Text, first_of}

-- this word is the value of an option
abbrev pub has_word : List Row → Text → Text → Bool
has_word found option word = option_map_or (λ text. bytes_eq text word) (first_of option found) false

-- the number that a text is, and another where there is none below 2^64
abbrev pub IsNumberOr : ℕ → Option Text → ℕ → Type 0
IsNumberOr other None number = number ≡ other
IsNumberOr other (Some text) number = (read : Result ℕ (Unit {0})) × ParsesUnsigned 64 10 text read × (number ≡ result_unwrap_or read other)

-- the number that a text is, where there is one below 2^64
abbrev pub IsNumberOrNone : Option Text → Option ℕ → Type 0
IsNumberOrNone None number = number ≡ None
IsNumberOrNone (Some text) number = (read : Result ℕ (Unit {0})) × ParsesUnsigned 64 10 text read × (number ≡ result_ok read)

-- the first argument is this word
abbrev pub BeginsWith : List Text → Text → Type 0
BeginsWith arguments word = (rest : List Text) × (arguments ≡ word ∷ rest)
