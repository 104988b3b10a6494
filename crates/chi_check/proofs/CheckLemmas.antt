-- what is written of a trace that was read
use Rattle.std.proofs.Common.{◌≡◌, ℕ, ◌≤◌, List, length, Option, None, Some, Ok, Err, IfSome, IsTrue, is_some, subst}
use Rattle.std.specs.Io.KnownBytes.{Appends}
use Rattle.chi_script.specs.WriterBytes.{AppendsFront}
use Rattle.chi_script.specs.declared.device.WriteFault.{WriteFault}
use Rattle.chi_answer.specs.declared.answer.Answer.{Answer}
use Rattle.chi_answer.specs.declared.answer.Answer.TheVariants.{Explained, Blamed, Unexplained, Undecided}
use Rattle.chi_answer.specs.Answers.{IfUndecided}
use Rattle.chi_reading.specs.TraceText.{RecordedValue}
use Rattle.chi_check.specs.Check.{Answers, HasNoTrace, HasTrace, IsRight, Outcome, judged, most_bytes}
use Rattle.chi_check.specs.CheckStatus.{answer_status}
use Rattle.chi_check.specs.Limits.{IsWithin}
use Rattle.chi_check.specs.Pages.{IsPage, IsPut, IsReported}
use Rattle.chi_check.specs.Written.{IsLines, IsWrittenAs}
use Rattle.chi_check.specs.declared.fault.CheckFault.TheVariants.{Input, Page, Write}
use Rattle.chi_check.specs.declared.fault.SourceFault.{SourceFault}
use Rattle.chi_check.specs.declared.fault.SourceFault.TheVariants as source_fault
use Rattle.chi_answer.specs.declared.format.AnswerFormat.{AnswerFormat}
use Rattle.chi_answer.specs.declared.format.AnswerFormat.TheVariants.{Text, Json}
use Rattle.chi_check.specs.declared.options.CheckOptions.{CheckOptions}

-- the answer that stands behind a report
answers : (IsCut : Option ℕ → Type 0) (options : CheckOptions) (input : List ℕ) (r : RecordedValue) (status : ℕ) (text page : List ℕ) → length input ≤ most_bytes → HasTrace options.lines input r
    → (a : IsReported IsCut options (judged options r) status text page) → Answers IsCut options input a.0 text
answers IsCut options input r status text page within has a = record { within = within; recorded = r; has_trace = has; right = a.1 }

-- the whole text was written
pub written : (IsCut : Option ℕ → Type 0) (options : CheckOptions) (remaining old new : Option (List ℕ)) (input : List ℕ) (r : RecordedValue) (status : ℕ) (text page : List ℕ)
    → IfSome remaining (λ bytes. input ≡ bytes) → length input ≤ most_bytes → HasTrace options.lines input r → IsReported IsCut options (judged options r) status text page → Appends old new text
    → IfSome remaining (λ bytes. Outcome IsCut options bytes old new (Ok status))
written IsCut options None old new input r status text page same within read a appends = tt
written IsCut options (Some bytes) old new input r status text page same within read a appends =
    subst (λ (l : List ℕ). Outcome IsCut options l old new (Ok status)) same (a.0, text, answers IsCut options input r status text page within read a, a.2, appends)

-- the writer failed
pub cut : (IsCut : Option ℕ → Type 0) (options : CheckOptions) (remaining old new : Option (List ℕ)) (input : List ℕ) (r : RecordedValue) (status : ℕ) (text page : List ℕ) (fault : WriteFault)
    → IfSome remaining (λ bytes. input ≡ bytes) → length input ≤ most_bytes → HasTrace options.lines input r → IsReported IsCut options (judged options r) status text page → AppendsFront old new text
    → IfSome remaining (λ bytes. Outcome IsCut options bytes old new (Err (Write fault)))
cut IsCut options None old new input r status text page fault same within read a front = tt
cut IsCut options (Some bytes) old new input r status text page fault same within read a front =
    subst (λ (l : List ℕ). Outcome IsCut options l old new (Err (Write fault))) same (a.0, text, answers IsCut options input r status text page within read a, front)

-- the page that is asked for was not put
pub unput : (IsCut : Option ℕ → Type 0) (options : CheckOptions) (remaining old new : Option (List ℕ)) (input : List ℕ) (r : RecordedValue) (status : ℕ) (text page : List ℕ)
    → IfSome remaining (λ bytes. input ≡ bytes) → length input ≤ most_bytes → HasTrace options.lines input r → IsReported IsCut options (judged options r) status text page → IsTrue (is_some options.html)
    → IfSome remaining (λ bytes. Outcome IsCut options bytes old new (Err Page))
unput IsCut options None old new input r status text page same within read a asked = tt
unput IsCut options (Some bytes) old new input r status text page same within read a asked =
    subst (λ (l : List ℕ). Outcome IsCut options l old new (Err Page)) same (a.0, text, answers IsCut options input r status text page within read a, asked)

-- the input has no trace
pub no_trace : (IsCut : Option ℕ → Type 0) (options : CheckOptions) (remaining old new : Option (List ℕ)) (input : List ℕ) (fault : SourceFault) → IfSome remaining (λ bytes. input ≡ bytes) → HasNoTrace options.lines input fault
    → IfSome remaining (λ bytes. Outcome IsCut options bytes old new (Err (Input fault)))
no_trace IsCut options None old new input fault same is = tt
no_trace IsCut options (Some bytes) old new input fault same is = subst (λ (l : List ℕ). Outcome IsCut options l old new (Err (Input fault))) same (by_fault fault is)
  where
    by_fault : (f : SourceFault) → HasNoTrace options.lines input f → Outcome IsCut options input old new (Err (Input f))
    by_fault source_fault.Read is = tt
    by_fault source_fault.TooLong is = absurd is
    by_fault source_fault.Memory is = tt
    by_fault (source_fault.Trace f) is = is
    by_fault (source_fault.Events f) is = is

-- what follows of two that hold where there is some
both_some : {X : Type 0} (A B C : X → Type 0) (found : Option X) → IfSome found A → IfSome found B → ((x : X) → A x → B x → C x) → IfSome found C
both_some A B C None a b both = tt
both_some A B C (Some x) a b both = both x a b

-- the page of the answer was put
module _ {P : Type 0} (has_put : P → List ℕ → List ℕ → Type 0) (IsCut : Option ℕ → Type 0) where
  pub put : (options : CheckOptions) (remaining old new : Option (List ℕ)) (input : List ℕ) (r : RecordedValue) (status : ℕ) (text page : List ℕ) (pages : P)
      → IfSome remaining (λ bytes. input ≡ bytes) → length input ≤ most_bytes → HasTrace options.lines input r → IsReported IsCut options (judged options r) status text page → Appends old new text
      → IfSome options.html (λ path. has_put pages path.now page) → IfSome remaining (λ bytes. IsPut has_put IsCut options bytes old new status pages)
  unfolding answers
  put options None old new input r status text page pages same within read a appends was_put = tt
  put options (Some bytes) old new input r status text page pages same within read a appends was_put =
      subst (λ (l : List ℕ). IsPut has_put IsCut options l old new status pages) same
      (both_some (λ _. IsPage _ _ page) (λ path. has_put pages path.now page) _ options.html a.3 was_put
      (λ path is_page has. (a.0, text, page, record { answers = answers IsCut options input r status text page within read a; page_is = is_page }, a.2, appends, has)))

-- the status of a trace that is not decided tells that as many states were looked at as may be
pub spent_where_undecided : (options : CheckOptions) (answer : Answer) (count : ℕ) → IfUndecided answer (λ doubt. IsWithin options doubt.states)
    → IfUndecided answer (λ doubt. doubt.states ≤ count) → answer_status answer ≡ 6 → (states : ℕ) × IsWithin options states × (states ≤ count)
spent_where_undecided options (Explained order) count within spent is = cc
spent_where_undecided options (Blamed blame further) count within spent is = cc
spent_where_undecided options (Unexplained granule words) count within spent is = cc
spent_where_undecided options (Undecided doubt) count within spent is = (doubt.states, within, spent)

-- what is known of whether the answer was cut short says what else is
module _ (IsCut May : Option ℕ → Type 0) (may : (cut_short : Option ℕ) → IsCut cut_short → May cut_short) (options : CheckOptions) (r : RecordedValue) where
  lines_by : (answer : Answer) (text : List ℕ) → IsLines IsCut options r answer text → IsLines May options r answer text
  lines_by (Explained order) text is = is
  lines_by (Blamed blame further) text (cut_short, is, same) = (cut_short, may cut_short is, same)
  lines_by (Unexplained granule words) text (whole, text_is, (cut_short, is, same)) = (whole, text_is, (cut_short, may cut_short is, same))
  lines_by (Undecided doubt) text (whole, text_is, (cut_short, is, same)) = (whole, text_is, (cut_short, may cut_short is, same))

  written_by : (format : AnswerFormat) (answer : Answer) (text : List ℕ) → IsWrittenAs format IsCut options r answer text → IsWrittenAs format May options r answer text
  written_by Text answer text is = lines_by answer text is
  written_by Json answer text (cut_short, is, same) = (cut_short, may cut_short is, same)

  pub right_by : (answer : Answer) (text : List ℕ) → IsRight IsCut options r answer text → IsRight May options r answer text
  right_by answer text is = record { right = is.right; undecided = is.undecided; text_is = written_by options.format answer text is.text_is }

  pub reported_by : (status : ℕ) (text page : List ℕ) → IsReported IsCut options r status text page → IsReported May options r status text page
  reported_by status text page (answer, right, status_is, page_is) = (answer, right_by answer text right, status_is, page_is)
