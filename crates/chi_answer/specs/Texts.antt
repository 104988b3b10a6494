-- the text of an answer
use Rattle.std.specs.Prelude.{◌≡◌, ℕ, Bool, true, false, List, [], ◌∷◌, ◌++◌, codes, vec_len, Option, None, Some}
use Rattle.chi_search.specs.declared.words.Words.{Words}
use Rattle.chi_search.specs.declared.words.Words.TheVariants.{Each, Unknown}
use Rattle.chi_verdict.specs.declared.first.Blame.{Blame}
use Rattle.chi_trace.specs.Words.{find_word}
use Rattle.chi_reading.specs.TraceText.{RecordedValue}
use Rattle.chi_answer.specs.declared.answer.Answer.{Answer}
use Rattle.chi_answer.specs.declared.answer.Answer.TheVariants.{Explained, Blamed, Unexplained, Undecided}
use Rattle.chi_answer.specs.DoubtLines.{doubt_text}
use Rattle.chi_answer.specs.Lines.{end_line, granule_line, word_lines}
use Rattle.chi_answer.specs.Stops.{stop_text}
use Rattle.chi_answer.specs.FurtherLines.{further_lines}
use Rattle.chi_answer.specs.Witnesses.{IsWitness}

-- where the trace stops being explained
abbrev pub blame_text : Blame → List ℕ
blame_text blame = granule_line blame.granule ++ stop_text (Some (vec_len blame.order)) blame.stop

-- the word that was observed at the end, and those that could have been there
abbrev pub end_words : ℕ → List ℕ → List ℕ
end_words final_word [] = []
end_words final_word (word ∷ words) = end_line final_word ++ word_lines (word ∷ words)

-- the same where a word was observed, and the others were found
abbrev pub end_text : Option ℕ → Words → List ℕ
end_text None words = []
end_text (Some final_word) Unknown = []
end_text (Some final_word) (Each words) = end_words final_word words.items

-- the text of an answer, with the operations in the order found where a witness is asked for
abbrev pub IsText : Bool → RecordedValue → Answer → List ℕ → Type 0
IsText false r (Explained order) text = text ≡ codes "explained\n"
IsText true r (Explained order) text = (witness : List ℕ) × IsWitness r order.items witness × (text ≡ codes "explained\n" ++ witness)
IsText witness r (Blamed blame further) text = text ≡ blame_text blame ++ further_lines blame.stop.op.number further
IsText witness r (Unexplained granule words) text = text ≡ granule_line granule ++ end_text (find_word r.final_words granule) words
IsText witness r (Undecided doubt) text = text ≡ doubt_text doubt
