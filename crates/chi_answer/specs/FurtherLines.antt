-- the lines of what else is found of a trace that stops being explained
use Rattle.std.specs.Prelude.{ℕ, Bool, true, false, List, [], ◌++◌, codes, decimal, Option, None, Some}
use Rattle.chi_answer.specs.BesideLine.{beside_line}
use Rattle.chi_answer.specs.declared.answer.Further.{Further}

-- how it is told whether a legal response explains the granule to its end
abbrev pub legal_words : Bool → List ℕ
legal_words true = codes "  a legal response of request "
legal_words false = codes "  no legal response of request "

-- one of this request does, or none
unfoldable pub explained_line : ℕ → Bool → List ℕ
explained_line number is_explained = legal_words is_explained ++ (decimal number ++ codes " explains the granule to its end\n")

-- the same, where it was found
abbrev pub to_the_end_line : ℕ → Option Bool → List ℕ
to_the_end_line number None = []
to_the_end_line number (Some is_explained) = explained_line number is_explained

-- both lines, of the request with this number
abbrev pub further_lines : ℕ → Further → List ℕ
further_lines number further = to_the_end_line number further.to_the_end ++ beside_line further.beside.items
