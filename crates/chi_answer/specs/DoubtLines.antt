-- the lines of a granule that was not decided
use Rattle.std.specs.Prelude.{ℕ, List, [], ◌++◌, codes, decimal, Option, None, Some}
use Rattle.chi_verdict.specs.declared.doubt.Doubt.{Doubt}
use Rattle.chi_answer.specs.Lines.{undecided_line}

-- a time up to which its operations are explained
unfoldable pub explained_to_line : ℕ → List ℕ
explained_to_line time = codes "  explained up to " ++ decimal time ++ codes "\n"

-- the same, where one was found
abbrev pub found_line : Option ℕ → List ℕ
found_line None = []
found_line (Some time) = explained_to_line time

-- how many of its operations were open at one time, at most
unfoldable pub most_open_line : ℕ → List ℕ
most_open_line count = codes "  operations open at most: " ++ decimal count ++ codes "\n"

-- what is said of it
abbrev pub doubt_text : Doubt → List ℕ
doubt_text doubt = undecided_line doubt.granule doubt.states ++ (found_line doubt.explained ++ most_open_line doubt.most_open)
