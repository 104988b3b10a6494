-- the number of attempts that `clap` found
use Rattle.std.proofs.Common.{ap, ◌≡◌, ◌∙◌, ℕ, refl, Option, Some, None, Result, Ok, Err}
use Rattle.std.specs.Option.{option_map_or, unwrap_or}
use Rattle.std.specs.Str.Parse.{ExplainsUnsignedError, HasUnsignedDigitsIfOk, ParsesUnsigned}
use Rattle.std.specs.declared.num.ParseIntError.{ParseIntError}
use Rattle.clap.specs.Matches.{ReadsOne, one_text}
use Rattle.clap.specs.Walk.{Text, byte_or_zero, one_of, rows_of}
use Rattle.clap.specs.declared.parser.matches.Found.{Found}
use Rattle.clap.proofs.WalkLemmas.{byte_read, one_text-rows}

-- what `u8::from_str` gives
abbrev ReadsByte : Text → Result ℕ ParseIntError → Type 0
ReadsByte text r = ParsesUnsigned 8 10 text r × ExplainsUnsignedError 10 text r × HasUnsignedDigitsIfOk text r

-- the number of an option, or 0 where it has none
pub number_found : (found : Found) (option : Text) (number : Option ℕ) → (one_text found option ≡ None → number ≡ None)
    → ((text : Text) → one_text found option ≡ Some text → ReadsOne ReadsByte text number)
    → unwrap_or number 0 ≡ option_map_or byte_or_zero (one_of option (rows_of found)) 0
number_found found option number none value =
    go (one_text found option) refl ∙ ap (λ text. option_map_or byte_or_zero text 0) (one_text-rows found option)
  where
    read : (text : Text) (n : Option ℕ) → ReadsOne ReadsByte text n → unwrap_or n 0 ≡ byte_or_zero text
    read text (Some n) h = byte_read {E = ParseIntError} text (Ok n) h.0
    read text None h = byte_read {E = ParseIntError} text (Err h.0) h.1.0

    go : (o : Option Text) → one_text found option ≡ o → unwrap_or number 0 ≡ option_map_or byte_or_zero o 0
    go None is = ap (λ n. unwrap_or n 0) (none is)
    go (Some text) is = read text number (value text is)
