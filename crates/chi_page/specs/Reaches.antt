-- a granule of lines that are watched as JSON: an object on one line
use Rattle.std.specs.Prelude.{ℕ, List, ◌++◌, codes, decimal, Option, None, Some}
use Rattle.chi_judge.specs.declared.reach.Reach.{Reach}
use Rattle.chi_judge.specs.declared.reach.Reach.TheVariants.{Whole, Stops, Undecided}
use Rattle.chi_search.specs.declared.words.Words.TheVariants.{Unknown}
use Rattle.chi_page.specs.Answers.{before_members, cut_short_json, end_members, granule_members, stop_members, undecided_members}

-- the line by which a granule was found, or null where that was at the end
unfoldable pub line_json : Option ℕ → List ℕ
line_json None = codes "null"
line_json (Some line) = decimal line

-- how far a granule can be explained, of which this word was told at the end
abbrev pub reach_members : Option ℕ → Reach → List ℕ
reach_members final_word (Whole words) = end_members final_word words
reach_members final_word (Stops stop) = stop_members stop ++ before_members stop stop.order.items None
reach_members final_word Undecided = end_members final_word Unknown

-- a granule that no order explains
unfoldable pub found_json : ℕ → Option ℕ → Option ℕ → Reach → Option ℕ → List ℕ
found_json granule line final_word reach cut_short =
    granule_members granule ++ (codes ",\"line\":" ++ (line_json line ++ (reach_members final_word reach ++ cut_short_json cut_short)))

-- a granule that was not decided
unfoldable pub doubt_json : ℕ → ℕ → Option ℕ → List ℕ
doubt_json granule states explained = undecided_members granule states explained ++ codes "}\n"
