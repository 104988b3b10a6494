-- what is answered of a trace that was read
use Rattle.std.specs.Prelude.{◌≡◌, ◌⊎◌, ℕ, ◌≤◌, Bool, List, [], Option, None, Some, ◌↔◌}
use Rattle.std.specs.List.{Contains}
use Rattle.chi_verdict.specs.Doubts.{IsDoubt}
use Rattle.chi_verdict.specs.declared.doubt.Doubt.{Doubt}
use Rattle.chi_search.specs.Found.{IfWords}
use Rattle.chi_search.specs.Looks.{FoundThenLooked, Search}
use Rattle.chi_judge.specs.Explained.{IsAsFarUnless}
use Rattle.chi_verdict.specs.Blames.{IsBlame}
use Rattle.chi_verdict.specs.ToTheEnd.{IsSaid, SomeExplains}
use Rattle.chi_verdict.specs.declared.first.Blame.{Blame}
use Rattle.chi_verdict.specs.Verdicts.{IfUndecided as IfUnfound}
use Rattle.chi_verdict.specs.declared.verdict.Verdict.{Verdict}
use Rattle.chi_trace.specs.Traces.{CanHold, IsExplained, IsExplainedIn, IsLegal, TraceValue}
use Rattle.chi_trace.specs.Words.{word_or_zero}
use Rattle.chi_reading.specs.TraceText.{RecordedValue}
use Rattle.chi_answer.specs.Beside.{AreBeside, TellsAll}
use Rattle.chi_answer.specs.declared.answer.Answer.{Answer}
use Rattle.chi_answer.specs.declared.answer.Answer.TheVariants.{Explained, Blamed, Unexplained, Undecided}

-- no order explains the trace
abbrev pub IsUnexplained : RecordedValue → Type 0
IsUnexplained r = (order : List ℕ) → IsExplained r.trace r.final_words order → ⊥

-- no order of the granule's operations alone does
abbrev pub IsUnexplainedIn : RecordedValue → ℕ → Type 0
IsUnexplainedIn r granule = (order : List ℕ) → IsExplainedIn r.trace r.final_words granule order → ⊥

-- these are the words that the granule can hold at the end of a trace that some order explains, whatever the words there
abbrev pub AreHeld : RecordedValue → ℕ → List ℕ → Type 0
AreHeld r granule words = (order : List ℕ) → IsLegal r.trace order → (v : ℕ) → Contains words v ↔ CanHold r.trace granule v

-- where it is said whether one of the responses that are listed as legal explains the granule to its end, it is so
abbrev pub SaysLegal : RecordedValue → Blame → Option Bool → Type 0
SaysLegal r blame to_the_end = IsSaid to_the_end (SomeExplains r.trace r.final_words blame.granule blame.stop.op.number blame.stop.legal.items)

-- the answer is right: its order explains the trace; or no order does, and what else it says holds, with so many operations before
-- the one that is blamed; or what it says of the granule
-- that was not decided does
abbrev pub IsAnswer : RecordedValue → ℕ → Answer → Type 0
IsAnswer r most (Explained order) = IsExplained r.trace r.final_words order.items
IsAnswer r most (Blamed blame further) = IsUnexplained r × IsBlame r.trace most blame × SaysLegal r blame further.to_the_end × AreBeside r blame.granule further.beside.items
IsAnswer r most (Unexplained granule words) = IsUnexplained r × IsUnexplainedIn r granule × IfWords words (AreHeld r granule)
IsAnswer r most (Undecided doubt) = IsDoubt r.trace doubt

-- where it is not said, no response is listed as legal, or this was spent
abbrev pub SaysLegalUnless : Type 0 → Blame → Option Bool → Type 0
SaysLegalUnless Spent blame (Some is_explained) = Unit {0}
SaysLegalUnless Spent blame None = (blame.stop.legal.items ≡ []) ⊎ Spent

-- all is said that there is to say further, or this was spent
abbrev pub SaysUnless : RecordedValue → Type 0 → Answer → Type 0
SaysUnless r Spent (Explained order) = Unit {0}
SaysUnless r Spent (Blamed blame further) = SaysLegalUnless Spent blame further.to_the_end × TellsAll Spent r blame.granule further.beside.items
SaysUnless r Spent (Unexplained granule words) = Unit {0}
SaysUnless r Spent (Undecided doubt) = Unit {0}

-- P of what is said of a granule that was not decided
abbrev pub IfUndecided : Answer → (Doubt → Type 0) → Type 0
IfUndecided (Explained order) P = Unit {0}
IfUndecided (Blamed blame further) P = Unit {0}
IfUndecided (Unexplained granule words) P = Unit {0}
IfUndecided (Undecided doubt) P = P doubt

-- so many states were looked at for the verdict, no fewer than it tells where it decides nothing
pub record FoundVerdict {P : Type 0} (states : P → ℕ → Type 0) (looked : Search → P → ℕ → Type 0) (old new : P) (verdict : Verdict) : Type 0 where
  pub count : ℕ
  pub found : FoundThenLooked states looked old new count 0
  pub undecided : IfUnfound verdict (λ states. states ≤ count)

-- so many were looked at for the verdict, no fewer than the answer says where it was not found, and so many were counted after it
pub record LookedForAnswer {P : Type 0} (states : P → ℕ → Type 0) (looked : Search → P → ℕ → Type 0) (old new : P) (answer : Answer) : Type 0 where
  pub count : ℕ
  pub more : ℕ
  pub found : FoundThenLooked states looked old new count more
  pub undecided : IfUndecided answer (λ doubt. doubt.states ≤ count)

-- a whole budget was looked at for the verdict, and as many states as it has were counted after it
abbrev pub SpentTwice : {P : Type 0} → (P → ℕ → Type 0) → (Search → P → ℕ → Type 0) → P → P → ℕ → Type 0
SpentTwice states looked old new budget = (count : ℕ) × (budget ≤ count) × ((more : ℕ) × (budget ≤ more) × FoundThenLooked states looked old new count more)

-- as many states as the budget has were counted after a verdict
abbrev pub SpentAfter : {P : Type 0} → (P → ℕ → Type 0) → (Search → P → ℕ → Type 0) → P → P → ℕ → Type 0
SpentAfter states looked old new budget = (count : ℕ) × ((more : ℕ) × (budget ≤ more) × FoundThenLooked states looked old new count more)

-- it is explained as far as was found within that
abbrev pub IsAsFar : {P : Type 0} → (P → ℕ → Type 0) → (Search → P → ℕ → Type 0) → P → P → ℕ → TraceValue → Doubt → Type 0
IsAsFar states looked old new budget t doubt =
    IsAsFarUnless (SpentTwice states looked old new budget) t.operations doubt.granule (word_or_zero t.opening doubt.granule) doubt.explained
