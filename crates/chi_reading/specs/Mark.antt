-- texts that begin with the mark that says that they are UTF-8
use Rattle.std.specs.Prelude.{ℕ, ◌==◌, nat_eq, if◌then◌else◌, List, [], ◌∷◌, drop, Option}
use Rattle.std.specs.List.{starts_with}
use Rattle.std.specs.Option.{option_or}
use Rattle.serde_json.specs.Data.{Data}
use Rattle.chi_json.specs.Values.{json_value}

-- what follows the mark, the bytes ef, bb and bf, where a text begins with it
abbrev pub without_mark : List ℕ → List ℕ
without_mark text = if starts_with nat_eq text (239 ∷ 187 ∷ 191 ∷ []) then drop 3 text else text

-- the value of a text, or where it has none that of what follows its mark
abbrev pub text_value : List ℕ → Option Data
text_value text = option_or (json_value text) (json_value (without_mark text))

-- the value of the line with this number: only the first can have a mark
abbrev pub line_value : ℕ → List ℕ → Option Data
line_value number line = if number == 1 then text_value line else json_value line
