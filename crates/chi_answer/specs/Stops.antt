-- the text of where a granule's operations stop being explained
use Rattle.std.specs.Prelude.{ℕ, List, [], ◌++◌, flat_map, Option}
use Rattle.chi_search.specs.declared.words.Words.{Words}
use Rattle.chi_search.specs.declared.words.Words.TheVariants.{Each, Unknown}
use Rattle.chi_judge.specs.declared.reach.Stop.{Stop}
use Rattle.chi_answer.specs.Lines.{blamed_line, explained_line, open_line, word_lines}

-- words that a granule can hold, where they were found
abbrev pub found_words : Words → List ℕ
found_words (Each words) = word_lines words.items
found_words Unknown = []

-- the operation that is blamed, the words, the operations that were open, and the time up to which they are explained
abbrev pub stop_text : Option ℕ → Stop → List ℕ
stop_text count s = blamed_line s.time s.op ++ (found_words s.words ++ (flat_map open_line s.overlapping.items ++ explained_line s.time count))
