-- what is read of what `clap` found
use Rattle.std.proofs.Common.{ap, subst, ◌≡◌, ◌∙◌, ℕ, refl, Option, Some, None, Result, Ok, Err}
use Rattle.std.specs.Option.{unwrap_or}
use Rattle.std.specs.Result.{result_ok, result_unwrap_or}
use Rattle.std.specs.Str.Parse.{ExplainsUnsignedError, HasUnsignedDigitsIfOk, ParsesUnsigned}
use Rattle.std.specs.declared.num.ParseIntError.{ParseIntError}
use Rattle.clap.specs.Matches.{ReadsOne, one_text}
use Rattle.clap.specs.Walk.{Text, one_of, rows_of}
use Rattle.clap.specs.declared.parser.matches.Found.{Found}
use Rattle.clap.proofs.WalkLemmas.{one_text-rows}
use Rattle.chi_program.specs.OptionValues.{IsNumberOr, IsNumberOrNone}

-- what `u64::from_str` gives
abbrev ReadsNumber : Text → Result ℕ ParseIntError → Type 0
ReadsNumber text r = ParsesUnsigned 64 10 text r × ExplainsUnsignedError 10 text r × HasUnsignedDigitsIfOk text r

-- the number of an option, where it has one
pub number_or_none : (found : Found) (option : Text) (number : Option ℕ) → (one_text found option ≡ None → number ≡ None)
    → ((text : Text) → one_text found option ≡ Some text → ReadsOne ReadsNumber text number)
    → IsNumberOrNone (one_of option (rows_of found)) number
number_or_none found option number none value =
    subst (λ text. IsNumberOrNone text number) (one_text-rows found option) (go (one_text found option) refl)
  where
    read : (text : Text) (n : Option ℕ) → ReadsOne ReadsNumber text n → IsNumberOrNone (Some text) n
    read text (Some n) h = (Ok n, h.0, refl)
    read text None h = (Err tt, h.1.0, refl)

    go : (o : Option Text) → one_text found option ≡ o → IsNumberOrNone o number
    go None is = none is
    go (Some text) is = read text number (value text is)

-- or another where it has none
pub number_or_other : (other : ℕ) (text : Option Text) (number : Option ℕ) → IsNumberOrNone text number → IsNumberOr other text (unwrap_or number other)
number_or_other other None number is = ap (λ n. unwrap_or n other) is
number_or_other other (Some text) number is = (is.0, is.1, ap (λ n. unwrap_or n other) is.2 ∙ read is.0)
  where
    read : (r : Result ℕ (Unit {0})) → unwrap_or (result_ok r) other ≡ result_unwrap_or r other
    read (Ok n) = refl
    read (Err e) = refl
