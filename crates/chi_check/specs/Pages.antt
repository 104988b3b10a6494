-- the page of an answer, and where it is put
use Rattle.std.specs.Prelude.{◌≡◌, ℕ, All, List, Option, None, Some, IfSome}
use Rattle.std.specs.Io.KnownBytes.{Appends}
use Rattle.chi_verdict.specs.declared.first.Blame.{Blame}
use Rattle.chi_reading.specs.TraceText.{RecordedValue}
use Rattle.chi_answer.specs.declared.answer.Answer.{Answer}
use Rattle.chi_answer.specs.declared.answer.Answer.TheVariants.{Explained, Blamed, Unexplained, Undecided}
use Rattle.chi_granules.specs.Judged.{AreAll, IsJudged, IsShown}
use Rattle.chi_page.specs.Pages.{data_json, page_text}
use Rattle.chi_page.specs.declared.drawn.Drawn.{Drawn}
use Rattle.chi_check.specs.Check.{Answers, IsRight, judged}
use Rattle.chi_check.specs.CheckStatus.{answer_status}
use Rattle.chi_check.specs.declared.options.CheckOptions.{CheckOptions}

-- what an answer says of where the trace stops being explained, if it does
abbrev pub blame_in : Answer → Option Blame
blame_in (Explained order) = None
blame_in (Blamed blame further) = Some blame
blame_in (Unexplained granule words) = None
blame_in (Undecided doubt) = None

-- what is shown of the granules: each is judged by itself, or is the one that is blamed
abbrev pub AreShown : RecordedValue → Option Blame → List Drawn → Type 0
AreShown r None granules = All (IsJudged r) granules
AreShown r (Some blame) granules = All (IsShown r blame) granules

-- the page of a trace: its operations, what is shown of all its granules, and the operation that is blamed
abbrev pub IsPage : RecordedValue → Option Blame → List ℕ → Type 0
IsPage r blame page =
    (granules : List Drawn) × AreShown r blame granules × AreAll r granules
    × ((front : List ℕ) × (back : List ℕ) × (page ≡ page_text front (data_json r granules blame) back))

-- where a page is asked for it is the one of the answer
abbrev pub IsPageAsked : CheckOptions → RecordedValue → Answer → List ℕ → Type 0
IsPageAsked options r answer page = IfSome options.html (λ _. IsPage r (blame_in answer) page)

-- some answer of what is judged of the trace is right: this is its status, what is written of it, and its page
abbrev pub IsReported : (Option ℕ → Type 0) → CheckOptions → RecordedValue → ℕ → List ℕ → List ℕ → Type 0
IsReported IsCut options r status text page =
    (answer : Answer) × IsRight IsCut options r answer text × (status ≡ answer_status answer) × IsPageAsked options r answer page

-- the input has a trace, this is a right answer of it, this its text, and this its page
pub record HasPage (IsCut : Option ℕ → Type 0) (options : CheckOptions) (input : List ℕ) (answer : Answer) (text page : List ℕ) : Type 0 where
  pub answers : Answers IsCut options input answer text
  pub page_is : IsPage (judged options answers.recorded) (blame_in answer) page

-- where one was asked for, the page of the answer that was written was put at the path
abbrev pub IsPut : {P : Type 0} → (P → List ℕ → List ℕ → Type 0) → (Option ℕ → Type 0) → CheckOptions → List ℕ → Option (List ℕ) → Option (List ℕ) → ℕ → P → Type 0
IsPut has_put IsCut options input old new status pages =
    IfSome options.html (λ path. (answer : Answer) × (text : List ℕ) × (page : List ℕ) × HasPage IsCut options input answer text page
    × (status ≡ answer_status answer) × Appends old new text × has_put pages path.now page)
