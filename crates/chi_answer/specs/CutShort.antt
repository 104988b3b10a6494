-- the line that says that what follows a verdict was not searched for to its end
use Rattle.std.specs.Prelude.{ℕ, List, [], ◌++◌, codes, decimal, Option, None, Some}

-- so many states were looked at after the verdict
unfoldable pub within_line : ℕ → List ℕ
within_line states = codes "  what is not shown was not found within " ++ decimal states ++ codes " more states\n"

-- the same, where it was cut short
abbrev pub cut_short_line : Option ℕ → List ℕ
cut_short_line None = []
cut_short_line (Some states) = within_line states
