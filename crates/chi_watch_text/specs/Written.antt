-- what is written of lines that are watched, in the form that is asked for
use Rattle.std.specs.Prelude.{ℕ, if◌then◌else◌, List, [], ◌++◌, Option, None, Some, flat_map}
use Rattle.chi_answer.specs.declared.format.AnswerFormat.{AnswerFormat}
use Rattle.chi_answer.specs.declared.format.AnswerFormat.TheVariants.{Text, Json}
use Rattle.chi_page.specs.Reaches.{doubt_json, found_json}
use Rattle.chi_watch.specs.declared.ending.Ending.{Ending}
use Rattle.chi_watch.specs.declared.ending.FoundAtEnd.{FoundAtEnd}
use Rattle.chi_watch.specs.declared.undecided.UndecidedAtEnd.{UndecidedAtEnd}
use Rattle.chi_watch_text.specs.FoundGranule.{is_found}
use Rattle.chi_watch_text.specs.Required.{missing_of}
use Rattle.chi_watch_text.specs.Summaries.{summary_json}
use Rattle.chi_watch_text.specs.Texts.{at_end_lines, found_lines, summary_text, undecided_lines}
use Rattle.chi_watch_text.specs.declared.options.WatchOptions.{WatchOptions}
use Rattle.chi_watch_text.specs.declared.required.Required.{Required}
use Rattle.chi_watch_text.specs.declared.watched.FoundGranule.{FoundGranule}
use Rattle.chi_watch_text.specs.declared.watched.Watched.{Watched}

-- a granule that was found by a line
abbrev pub found_text : AnswerFormat → FoundGranule → List ℕ
found_text Text f = found_lines f
found_text Json f = found_json f.granule (Some f.line) None f.reach f.cut_short

-- one that is not explained at the end
abbrev pub at_end_text : AnswerFormat → FoundAtEnd → List ℕ
at_end_text Text f = at_end_lines f
at_end_text Json f = found_json f.granule None f.final_word f.reach f.cut_short

-- the same, where it was not found before
unfoldable pub end_text : AnswerFormat → List FoundGranule → FoundAtEnd → List ℕ
end_text format found f = if is_found f.granule found then [] else at_end_text format f

-- one that is not decided after so many states
abbrev pub undecided_text : AnswerFormat → ℕ → UndecidedAtEnd → List ℕ
undecided_text Text budget u = undecided_lines budget u
undecided_text Json budget u = doubt_json u.granule budget u.explained

-- what is said of granules at the end
abbrev pub ending_text : AnswerFormat → ℕ → List FoundGranule → Option Ending → List ℕ
ending_text format budget found None = []
ending_text format budget found (Some ending) = flat_map (end_text format found) ending.unexplained.items ++ flat_map (undecided_text format budget) ending.undecided.items

-- whether all is explained, how much was told, and what is required and does not hold
abbrev pub last_text : AnswerFormat → Watched → Required → List ℕ
last_text Text w missing = summary_text w missing
last_text Json w missing = summary_json w missing

-- what is said once all is watched
abbrev pub closing_text : WatchOptions → Watched → List ℕ
closing_text options w = ending_text options.answer options.budget w.found.items w.ending ++ last_text options.answer w (missing_of options.required w)

-- the whole text: the granules that were told when they were found, and what is said once all is watched
abbrev pub watched_text : WatchOptions → Watched → List ℕ
watched_text options w = flat_map (found_text options.answer) w.found.items ++ closing_text options w
