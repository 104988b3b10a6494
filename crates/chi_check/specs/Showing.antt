-- the page that a watch makes: that of the granule that is listed first
use Rattle.std.specs.Prelude.{◌≡◌, ℕ, ◌*◌, ◌%◌, ◌^◌, ◌⊎◌, ◌++◌, false, List, Option, None, Some, IfSome}
use Rattle.std.specs.Io.KnownBytes.{Appends}
use Rattle.chi_reading.specs.TraceText.{RecordedValue}
use Rattle.chi_answer.specs.declared.answer.Answer.{Answer}
use Rattle.chi_watch_text.specs.Outcomes.{IsWatched}
use Rattle.chi_watch_text.specs.Written.{watched_text}
use Rattle.chi_watch_text.specs.declared.fault.LinesFault.TheVariants as lines_fault
use Rattle.chi_watch_text.specs.declared.watched.Watched.{Watched}
use Rattle.chi_check.specs.Check.{HasTrace, IsRight, judged}
use Rattle.chi_check.specs.Pages.{IsPage, blame_in}
use Rattle.chi_check.specs.Saving.{IsPutOf, first_listed}
use Rattle.chi_check.specs.Watch.{stopped_by, watch_status, watching}
use Rattle.chi_check.specs.Written.{AnyCut}
use Rattle.chi_check.specs.declared.fault.CheckFault.{CheckFault}
use Rattle.chi_check.specs.declared.fault.CheckFault.TheVariants as check_fault
use Rattle.chi_answer.specs.declared.format.AnswerFormat.TheVariants.{Text}
use Rattle.chi_check.specs.declared.options.CheckOptions.{CheckOptions}
use Rattle.chi_check.specs.declared.options.WatchingOptions.{WatchingOptions}

-- how the page of a granule is made: as a check of the lines makes it that is asked for the granule at this address alone
abbrev pub page_options : WatchingOptions → ℕ → CheckOptions
page_options options g = record {
  lines = Some options.format;
  witness = false;
  format = Text;
  budget = options.budget;
  seconds = None;
  memory = None;
  granule = Some (g * 8 % 2 ^ 64);
  until = None;
  around = options.around;
  html = options.html;
}

-- The page that a check makes of these lines, however many they are: they have a trace, this is a right answer of it with its text,
-- and the page is the one of the answer.
pub record IsPageOf (options : CheckOptions) (lines page : List ℕ) : Type 0 where
  pub recorded : RecordedValue
  pub has_trace : HasTrace options.lines lines recorded
  pub answer : Answer
  pub text : List ℕ
  pub right : IsRight AnyCut options (judged options recorded) answer text
  pub page_is : IsPage (judged options recorded) (blame_in answer) page

-- it is the one that a check makes of this granule, and of the lines that were read of an input, which this rest follows
abbrev pub IsPageOfRead : WatchingOptions → List ℕ → List ℕ → ℕ → List ℕ → Type 0
IsPageOfRead options input rest g page = (read : List ℕ) × (input ≡ read ++ rest) × IsPageOf (page_options options g) read page

-- Where a granule is listed the page that a check makes of it, and of the lines that are kept, was put at the path. Where none is
-- nothing was put.
abbrev pub IsFirstShown : {P : Type 0} → (P → List ℕ → List ℕ → Type 0) → WatchingOptions → Watched → List ℕ → P → P → Type 0
IsFirstShown has_put options w path old new =
    IfSome w.kept (λ kept. IsPutOf has_put (first_listed w) (λ g page. IsPageOf (page_options options g) kept.items page) path old new)

-- why it was not put: the path could not be written, or there was no memory
abbrev pub IsUnshown : Watched → CheckFault → Type 0
IsUnshown w fault = (fault ≡ check_fault.Unshown) ⊎ (fault ≡ stopped_by lines_fault.Memory w.found.items)

-- Where a page is asked for, the one that a check makes of the granule that is listed first, and of the lines that were read, was put
-- at the path, before what is said once all is watched was written; where no granule is listed nothing was put.
abbrev pub ShowsFirst : {P : Type 0} → (P → List ℕ → List ℕ → Type 0) → WatchingOptions → List ℕ → Option (List ℕ) → Option (List ℕ) → ℕ → P → P → Type 0
ShowsFirst has_put options input old new status before after =
    IfSome options.html (λ path. (watched : Watched) × (is : IsWatched options.format input options.keep_going options.around watched) × (status ≡ watch_status (watching options) watched)
    × Appends old new (watched_text (watching options) watched) × IsPutOf has_put (first_listed watched) (IsPageOfRead options input is.rest) path.now before after)
