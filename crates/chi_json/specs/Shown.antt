-- what a fault shows of a text and of a value
use Rattle.std.specs.Prelude.{ℕ, ◌-◌, List, ◌++◌, length, replicate, take}
use Rattle.std.specs.Option.{option_map_or}
use Rattle.serde_json.specs.Data.{Data, null, boolean, number, string, array, object, Num}
use Rattle.serde_json.specs.Find.{as_integer}
use Rattle.chi_json.specs.declared.shown.ShownText.{ShownText}
use Rattle.chi_json.specs.declared.shown.ShownValue.{ShownValue}
use Rattle.chi_json.specs.declared.shown.ShownValue.TheVariants as value

-- of a text: its first 32 bytes, and then zeros, and how many bytes it has
abbrev pub shown_text : List ℕ → ShownText
shown_text s = record { letters = take 32 s ++ replicate (32 - length s) 0; length = length s }

-- of a number: a whole one, or that it is another
abbrev pub shown_number : Num → ShownValue
shown_number n = option_map_or value.Whole (as_integer n) value.Number

-- of a value: of a list and of an object that it is one
abbrev pub shown_value : Data → ShownValue
shown_value null = value.Null
shown_value (boolean b) = value.Bool b
shown_value (number n) = shown_number n
shown_value (string s) = value.Text (shown_text s)
shown_value (array ds) = value.List
shown_value (object ms) = value.Object
