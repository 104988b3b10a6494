-- what is written of an answer
use Rattle.std.specs.Prelude.{◌≡◌, ℕ, ◌++◌, List, Option}
use Rattle.chi_reading.specs.TraceText.{RecordedValue}
use Rattle.chi_answer.specs.declared.answer.Answer.{Answer}
use Rattle.chi_answer.specs.declared.answer.Further.{Further}
use Rattle.chi_answer.specs.declared.answer.Answer.TheVariants.{Explained, Blamed, Unexplained, Undecided}
use Rattle.chi_answer.specs.CutShort.{cut_short_line}
use Rattle.chi_answer.specs.FurtherLines.{further_lines}
use Rattle.chi_answer.specs.Texts.{IsText}
use Rattle.chi_excerpt.specs.Failures.{failure_text}
use Rattle.chi_page.specs.Answers.{answer_json}
use Rattle.chi_verdict.specs.declared.first.Blame.{Blame}
use Rattle.chi_answer.specs.declared.format.AnswerFormat.{AnswerFormat}
use Rattle.chi_answer.specs.declared.format.AnswerFormat.TheVariants.{Text, Json}
use Rattle.chi_check.specs.declared.options.CheckOptions.{CheckOptions}

-- nothing is said of whether what follows the verdict was cut short
abbrev pub AnyCut : Option ℕ → Type 0
AnyCut cut_short = Unit {0}

-- the text of an answer, and a line more where what follows the verdict was not searched for to its end, which is as is said
abbrev pub IsTextCut : (Option ℕ → Type 0) → CheckOptions → RecordedValue → Answer → List ℕ → Type 0
IsTextCut IsCut options r answer text =
    (whole : List ℕ) × IsText options.witness r answer whole × ((cut_short : Option ℕ) × IsCut cut_short × (text ≡ whole ++ cut_short_line cut_short))

-- what is written of an answer that blames no operation
abbrev pub IsUsualText : (Option ℕ → Type 0) → CheckOptions → RecordedValue → Answer → List ℕ → Type 0
IsUsualText IsCut options r (Explained order) text = IsText options.witness r (Explained order) text
IsUsualText IsCut options r (Blamed blame further) text = IsTextCut IsCut options r (Blamed blame further) text
IsUsualText IsCut options r (Unexplained granule words) text = IsTextCut IsCut options r (Unexplained granule words) text
IsUsualText IsCut options r (Undecided doubt) text = IsTextCut IsCut options r (Undecided doubt) text

-- what is written of where the trace stops being explained: the operations of the granule around the one that is blamed, and what else is
-- found
abbrev pub blamed_text : CheckOptions → RecordedValue → Blame → Further → List ℕ
blamed_text options r blame further = failure_text r options.around blame ++ further_lines blame.stop.op.number further

-- what is written of an answer as text: its text, and more of where the trace stops being explained
abbrev pub IsLines : (Option ℕ → Type 0) → CheckOptions → RecordedValue → Answer → List ℕ → Type 0
IsLines IsCut options r (Explained order) text = IsUsualText IsCut options r (Explained order) text
IsLines IsCut options r (Blamed blame further) text =
    (cut_short : Option ℕ) × IsCut cut_short × (text ≡ blamed_text options r blame further ++ cut_short_line cut_short)
IsLines IsCut options r (Unexplained granule words) text = IsUsualText IsCut options r (Unexplained granule words) text
IsLines IsCut options r (Undecided doubt) text = IsUsualText IsCut options r (Undecided doubt) text

-- and as JSON
abbrev pub IsJson : (Option ℕ → Type 0) → CheckOptions → RecordedValue → Answer → List ℕ → Type 0
IsJson IsCut options r answer text = (cut_short : Option ℕ) × IsCut cut_short × (text ≡ answer_json r options.witness options.around cut_short answer)

-- in a form
abbrev pub IsWrittenAs : AnswerFormat → (Option ℕ → Type 0) → CheckOptions → RecordedValue → Answer → List ℕ → Type 0
IsWrittenAs Text IsCut options r answer text = IsLines IsCut options r answer text
IsWrittenAs Json IsCut options r answer text = IsJson IsCut options r answer text

-- What is written of an answer, in the form that is asked for.
abbrev pub IsWritten : (Option ℕ → Type 0) → CheckOptions → RecordedValue → Answer → List ℕ → Type 0
IsWritten IsCut options r answer text = IsWrittenAs options.format IsCut options r answer text
