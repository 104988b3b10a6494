-- the value of a line that has one itself
use Rattle.std.proofs.Common.{◌≡◌, ℕ, ◌==◌, Bool, true, false, if◌then◌else◌, List, Some, ap}
use Rattle.std.specs.Option.{option_or}
use Rattle.serde_json.specs.Data.{Data}
use Rattle.chi_json.specs.Values.{json_value}
use Rattle.chi_reading.specs.Mark.{line_value, text_value, without_mark}

-- a line that has a value itself has it whether or not it is the first
pub line_value-json_value : (number : ℕ) (line : List ℕ) (d : Data) → json_value line ≡ Some d → line_value number line ≡ Some d
line_value-json_value number line d is = by_first (number == 1)
  where
    by_first : (is_first : Bool) → (if is_first then text_value line else json_value line) ≡ Some d
    by_first true = ap (λ o. option_or o (json_value (without_mark line))) is
    by_first false = is
