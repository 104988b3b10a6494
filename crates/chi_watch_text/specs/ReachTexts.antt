-- the text of how far a granule's operations can be explained
use Rattle.std.specs.Prelude.{ℕ, List, [], ◌++◌, Option, None, codes}
use Rattle.chi_answer.specs.Stops.{stop_text}
use Rattle.chi_answer.specs.Texts.{end_text}
use Rattle.chi_excerpt.specs.Excerpts.{excerpt_text, order_line}
use Rattle.chi_excerpt.specs.Writers.{writers_text}
use Rattle.chi_judge.specs.declared.reach.Reach.{Reach}
use Rattle.chi_judge.specs.declared.reach.Reach.TheVariants.{Whole, Stops, Undecided}
use Rattle.chi_judge.specs.declared.reach.Stop.{Stop}

-- what is said of where they stop being explained, the operations around that, an order of those before, and which of these wrote
-- the wrong bytes last
abbrev pub stop_lines : Stop → List ℕ
stop_lines s =
    stop_text None s ++ (excerpt_text (codes "line") s ++ (order_line (codes " in an order that ends with lines") s.time s.order.items
    ++ writers_text (codes "line") s s.order.items))

abbrev pub reach_text : Option ℕ → Reach → List ℕ
reach_text final_word (Whole words) = end_text final_word words
reach_text final_word (Stops stop) = stop_lines stop
reach_text final_word Undecided = []
