-- the trace that events tell
use Rattle.std.specs.Prelude.{◌≡◌, ℕ, Bool, true, false, List, [], ◌∷◌, Option, None, is_some, option_to_list, IsPermutation}
use Rattle.std.specs.BTreeMap.{get}
use Rattle.std.specs.Ordering.{nat_cmp}
use Rattle.chi_events.specs.declared.event.Event.{Event}
use Rattle.chi_events.specs.declared.event.EventKind.{EventKind}
use Rattle.chi_events.specs.declared.event.EventKind.TheVariants.{Word}
use Rattle.chi_reading.specs.TraceText.{RecordedValue}
use Rattle.chi_trace.specs.declared.operation.Operation.{Operation}
use Rattle.chi_trace.specs.declared.words.GranuleWord.{GranuleWord}
use Rattle.chi_trace.specs.Words.{find_word}
use Rattle.chi_watch.specs.Judged.{final_of, judged}
use Rattle.chi_watch.specs.Watches.{WatchValue, Watches, unknown_in}
use Rattle.chi_watch.specs.WordsTold.{final_words, granule_word, openings, write_at, writes_told}
use Rattle.chi_watch_text.specs.Lines.{AreToldAll}
use Rattle.chi_watch_text.specs.declared.line_format.LineFormat.{LineFormat}
use Rattle.chi_watch_text.specs.declared.recorded.Recording.{Recording}

-- This is the trace that events tell: of all addresses, with what is judged of the operations, by their starts, the words at the
-- opening, and those that were told at the end of the granules of which all is told. Of refused requests nothing is kept.
pub record IsToldTrace (events : List Event) (r : RecordedValue) : Type 0 where
  pub region : r.region ≡ None
  pub opening : (g : ℕ) → find_word r.trace.opening g ≡ find_word (openings events) g
  pub operations : IsPermutation (judged events) r.trace.operations
  pub final_words : (g : ℕ) → find_word r.final_words g ≡ final_of events g
  pub refusals : r.refusals ≡ []

-- all lines of the text tell events that a watch takes, and this is their trace
abbrev pub IsRecorded : LineFormat → List ℕ → RecordedValue → Type 0
IsRecorded format text r = (events : List Event) × AreToldAll format text events × IsToldTrace events r

-- the words that are noted are the first that are told of each granule
abbrev pub HasWords : List GranuleWord → (ℕ → Option ℕ) → Type 0
HasWords told words = (g : ℕ) → words g ≡ find_word told g

-- the event tells the word of a granule to which something that is not told may have written before
abbrev pub is_told_again : WatchValue → EventKind → Bool
is_told_again w (Word told) = is_some (unknown_in w told.granule)
is_told_again w _ = false

-- a word at the opening, and the write that stands for one that is told again
abbrev pub opening_told : Bool → EventKind → List GranuleWord
opening_told false (Word told) = granule_word told ∷ []
opening_told again _ = []

abbrev pub write_told : Bool → ℕ → EventKind → List Operation
write_told true time (Word told) = option_to_list (write_at time told)
write_told again time _ = []

-- what was recorded of the events: a watch took them, these operations had ended by them, these writes stand for words, and these
-- words were told
pub record HasRecorded (events : List Event) (r : Recording) : Type 0 where
  pub watches : Watches events r.ended.items r.watch
  pub writes : r.writes.items ≡ writes_told events
  pub opening : HasWords (openings events) (get nat_cmp r.opening)
  pub final_words : HasWords (final_words events) (get nat_cmp r.final_words)
