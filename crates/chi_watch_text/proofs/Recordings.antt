-- events that are recorded, one after another
use Rattle.std.proofs.Common.{◌≡◌, ℕ, ◌==◌, Bool, true, false, cond, All, flat_map, is_none, List, [], ◌∷◌, ◌++◌, Option, Some, None, IfSome, is_some, option_to_list, refl, sym, ap, ap₂, subst, ◌∙◌, eqb-true, eq-eqb, true≢false, append-nil, IsPermutation}
use Rattle.std.specs.List.{list_any}
use Rattle.std.specs.List.Sorted.{IsNonDecreasingBy}
use Rattle.std.proofs.lemmas.List.Sorted.{IsPermutation-append, IsPermutation-append_comm, IsPermutation-refl, IsPermutation-trans}
use Rattle.std.specs.BTreeMap.{get}
use Rattle.std.specs.Ordering.{nat_cmp}
use Rattle.chi_events.specs.declared.event.Event.{Event}
use Rattle.chi_events.specs.declared.event.EventKind.{EventKind}
use Rattle.chi_events.specs.declared.event.EventKind.TheVariants.{Request, Data, Reply, Dropped, Refused, Word, Final, Unknown, End}
use Rattle.chi_reading.specs.TraceText.{RecordedValue}
use Rattle.chi_trace.specs.declared.operation.Operation.{Operation}
use Rattle.chi_trace.specs.declared.words.GranuleWord.{GranuleWord}
use Rattle.chi_trace.specs.Explains.{IsOperation, IsTrace}
use Rattle.std.proofs.lemmas.List.Elements.{All-append}
use Rattle.chi_trace.proofs.Traced.{IsTrace-sorted, all_observed}
use Rattle.chi_trace.specs.Traces.{TraceValue}
use Rattle.chi_trace.specs.Words.{find_word}
use Rattle.chi_events.specs.Operations.{operations}
use Rattle.chi_watch.specs.Judged.{final_of, judged, judged_part, operations_and_writes}
use Rattle.chi_watch.specs.Watches.{HasTaken, Takes, WatchValue, Watches, fault_of, granule, unknown_in}
use Rattle.chi_watch.specs.WordsTold.{covers, final_in, final_words, openings, word_at, writes_told}
use Rattle.chi_watch.proofs.JudgedParts.{judged_permutation, judged_traced}
use Rattle.chi_watch.proofs.Among.{all_moved, writes_are}
use Rattle.chi_watch.proofs.FoundWords.{told_other, told_own}
use Rattle.chi_watch.proofs.MoreWords.{later_openings, later_writes, opening_told as openings_with, opening_writes, openings_none, writes_none}
use Rattle.chi_watch.proofs.Noted.{finals_more}
use Rattle.chi_watch.proofs.Taken.{covered_again, since_told}
use Rattle.chi_watch_text.specs.Operations.{AreInOrder}
use Rattle.chi_watch_text.specs.Reading.{GivesNext, HasGiven, HasGivenOf}
use Rattle.chi_watch_text.specs.Recorded.{HasRecorded, HasWords, IsRecorded, IsToldTrace, is_told_again, opening_told, write_told}
use Rattle.chi_watch_text.specs.declared.reading.Reading.{Reading}
use Rattle.chi_watch_text.specs.declared.recorded.Recording.{Recording}
use Rattle.chi_watch_text.proofs.KnownWords.{told_again}
use Rattle.chi_watch_text.proofs.Readings.{all_told}
use Rattle.chi_watch_text.proofs.Refused.{TookLines}

-- a word that is told of a granule of which none was noted, and of one of which one was
pub word_noted : (before : List GranuleWord) (w : GranuleWord) (old new : ℕ → Option ℕ) → is_some (old w.granule) ≡ false → new w.granule ≡ Some w.word → ((g : ℕ) → (g ≡ w.granule → ⊥) → new g ≡ old g)
    → HasWords before old → HasWords (before ++ w ∷ []) new
word_noted before w old new none is others has g = by_test (g == w.granule) refl
  where
    none_is : (o : Option ℕ) → is_some o ≡ false → o ≡ None
    none_is None is = refl
    none_is (Some x) is = absurd (true≢false is)

    by_test : (b : Bool) → (g == w.granule) ≡ b → new g ≡ find_word (before ++ w ∷ []) g
    by_test true same = rw (eqb-true g w.granule same) (is ∙ sym (told_own before w (sym (has w.granule) ∙ none_is (old w.granule) none)))
    by_test false other =
        let apart : g ≡ w.granule → ⊥ = λ same. absurd (true≢false (sym (eq-eqb g w.granule same) ∙ other)) in
        others g apart ∙ (has g ∙ sym (told_other before w g (not_same apart)))
      where
        not_same : (g ≡ w.granule → ⊥) → (w.granule == g) ≡ false
        not_same apart = by_other (w.granule == g) refl
          where
            by_other : (b : Bool) → (w.granule == g) ≡ b → b ≡ false
            by_other true same = absurd (apart (sym (eqb-true w.granule g same)))
            by_other false other = refl

pub word_kept : (before : List GranuleWord) (w : GranuleWord) (old : ℕ → Option ℕ) → is_some (old w.granule) ≡ true → HasWords before old → HasWords (before ++ w ∷ []) old
word_kept before w old some has g = by_test (w.granule == g) refl
  where
    by_test : (b : Bool) → (w.granule == g) ≡ b → old g ≡ find_word (before ++ w ∷ []) g
    by_test true same =
        let here : w.granule ≡ g = eqb-true w.granule g same in
        has g ∙ sym (told_again before w g (ap is_some (sym (has g)) ∙ subst (λ (n : ℕ). is_some (old n) ≡ true) here some))
    by_test false other = has g ∙ sym (told_other before w g other)

-- the words of one event more, and the writes that stand for words
module _ (events : List Event) (e : Event) (w : WatchValue) (has : HasTaken events w) (fits : fault_of w e ≡ None) where
  pub opening_more : openings (events ++ e ∷ []) ≡ openings events ++ opening_told (is_told_again w e.kind) e.kind
  opening_more = by_kind e.kind refl
    where
      none : (k : EventKind) → e.kind ≡ k → word_at e.time k ≡ [] → openings (events ++ e ∷ []) ≡ openings events ++ []
      none k is so = openings_none events e (ap (word_at e.time) is ∙ so) ∙ sym (append-nil (openings events))

      by_kind : (k : EventKind) → e.kind ≡ k → openings (events ++ e ∷ []) ≡ openings events ++ opening_told (is_told_again w k) k
      by_kind (Word told) is = by_test (is_some (unknown_in w told.granule)) (covered_again events w e told has fits is)
        where
          by_test : (b : Bool) → list_any (λ (x : Event). covers told.granule x.kind) events ≡ b → openings (events ++ e ∷ []) ≡ openings events ++ opening_told b (Word told)
          by_test true covered = later_openings events e told is covered ∙ sym (append-nil (openings events))
          by_test false uncovered = openings_with events e told is uncovered
      by_kind (Request r) is = none (Request r) is refl
      by_kind (Data p) is = none (Data p) is refl
      by_kind (Reply c) is = none (Reply c) is refl
      by_kind (Dropped id) is = none (Dropped id) is refl
      by_kind (Refused id reason) is = none (Refused id reason) is refl
      by_kind (Final told) is = none (Final told) is refl
      by_kind (Unknown addr len) is = none (Unknown addr len) is refl
      by_kind End is = none End is refl

  pub write_more : writes_told (events ++ e ∷ []) ≡ writes_told events ++ write_told (is_told_again w e.kind) e.time e.kind
  write_more = by_kind e.kind refl
    where
      none : (k : EventKind) → e.kind ≡ k → word_at e.time k ≡ [] → writes_told (events ++ e ∷ []) ≡ writes_told events ++ []
      none k is so = writes_none events e (ap (word_at e.time) is ∙ so) ∙ sym (append-nil (writes_told events))

      by_kind : (k : EventKind) → e.kind ≡ k → writes_told (events ++ e ∷ []) ≡ writes_told events ++ write_told (is_told_again w k) e.time k
      by_kind (Word told) is = by_test (is_some (unknown_in w told.granule)) (covered_again events w e told has fits is)
        where
          by_test : (b : Bool) → list_any (λ (x : Event). covers told.granule x.kind) events ≡ b → writes_told (events ++ e ∷ []) ≡ writes_told events ++ write_told b e.time (Word told)
          by_test true covered = later_writes events e told is covered
          by_test false uncovered = opening_writes events e told is uncovered ∙ sym (append-nil (writes_told events))
      by_kind (Request r) is = none (Request r) is refl
      by_kind (Data p) is = none (Data p) is refl
      by_kind (Reply c) is = none (Reply c) is refl
      by_kind (Dropped id) is = none (Dropped id) is refl
      by_kind (Refused id reason) is = none (Refused id reason) is refl
      by_kind (Final told) is = none (Final told) is refl
      by_kind (Unknown addr len) is = none (Unknown addr len) is refl
      by_kind End is = none End is refl

pub final_more : (events : List Event) (e : Event) → final_words (events ++ e ∷ []) ≡ final_words events ++ option_to_list (final_in e.kind)
final_more events e = finals_more events e ∙ ap (λ words. final_words events ++ words) (one (final_in e.kind) refl)
  where
    one : (o : Option GranuleWord) → final_in e.kind ≡ o → final_words (e ∷ []) ≡ option_to_list o
    one None is = rw is refl
    one (Some w) is = rw is refl

-- one event more is recorded
pub recorded_more : (e : Event) (ended : Option Operation) (old new : Recording) → Takes e ended old.watch new.watch → fault_of old.watch e ≡ None → new.ended.items ≡ old.ended.items ++ option_to_list ended
    → new.writes.items ≡ old.writes.items ++ write_told (is_told_again old.watch e.kind) e.time e.kind
    → ((before : List GranuleWord) → HasWords before (get nat_cmp old.opening) → HasWords (before ++ opening_told (is_told_again old.watch e.kind) e.kind) (get nat_cmp new.opening))
    → ((before : List GranuleWord) → HasWords before (get nat_cmp old.final_words) → HasWords (before ++ option_to_list (final_in e.kind)) (get nat_cmp new.final_words))
    → (events : List Event) → HasRecorded events old → HasRecorded (events ++ e ∷ []) new
recorded_more e ended old new takes fits is writes opening final events has =
    let taken : HasTaken events old.watch = (old.ended.items, has.watches) in
    record {
      watches = subst (λ (ops : List Operation). Watches (events ++ e ∷ []) ops new.watch) (sym is) (takes events old.ended.items has.watches);
      writes = writes ∙ (ap (λ l. l ++ write_told (is_told_again old.watch e.kind) e.time e.kind) has.writes ∙ sym (write_more events e old.watch taken fits));
      opening = subst (λ (words : List GranuleWord). HasWords words (get nat_cmp new.opening)) (sym (opening_more events e old.watch taken fits)) (opening (openings events) has.opening);
      final_words = subst (λ (words : List GranuleWord). HasWords words (get nat_cmp new.final_words)) (sym (final_more events e)) (final (final_words events) has.final_words);
    }

-- the events that a reading of a text has given, which may not be known, were recorded, and the rest follows
abbrev pub HasRecordedLines : Option (List ℕ) → Recording → Reading → Option (List ℕ) → Type 0
HasRecordedLines None r reading rest = Unit {0}
HasRecordedLines (Some text) r reading None = ⊥
HasRecordedLines (Some text) r reading (Some rest) = (events : List Event) × HasGiven text events reading rest × HasRecorded events r

pub none_recorded : (start : Option (List ℕ)) (r : Recording) (reading : Reading) → HasRecorded [] r → HasGivenOf start [] reading start → HasRecordedLines start r reading start
none_recorded None r reading has given = tt
none_recorded (Some text) r reading has given = ([], given, has)

pub event_recorded : (start now later : Option (List ℕ)) (old new : Recording) (r s : Reading) (e : Event) → HasRecordedLines start old r now → GivesNext start r now (Some e) s later
    → ((events : List Event) → HasRecorded events old → HasRecorded (events ++ e ∷ []) new) → HasRecordedLines start new s later
event_recorded None now later old new r s e has gives more = tt
event_recorded (Some text) None later old new r s e has gives more = absurd has
event_recorded (Some text) (Some rest) later old new r s e (events, given, has) gives more = by_rest later (gives events given).0
  where
    by_rest : (left : Option (List ℕ)) → HasGivenOf (Some text) (events ++ e ∷ []) s left → HasRecordedLines (Some text) new s left
    by_rest None now_given = absurd now_given
    by_rest (Some left) now_given = (events ++ e ∷ [], now_given, more events has)

pub all_recorded : (start now later : Option (List ℕ)) (recording : Recording) (r s : Reading) (value : RecordedValue) → HasRecordedLines start recording r now → GivesNext start r now None s later
    → ((events : List Event) → HasRecorded events recording → IsToldTrace events value) → IfSome start (λ text. IsRecorded r.format text value)
all_recorded None now later recording r s value has gives is = tt
all_recorded (Some text) None later recording r s value has gives is = absurd has
all_recorded (Some text) (Some rest) later recording r s value (events, given, has) gives is = (events, all_told r.format text events s (gives events given), is events has)

-- a watch took them
pub taken_lines : (start now : Option (List ℕ)) (recording : Recording) (r : Reading) → HasRecordedLines start recording r now → TookLines start recording.watch r now
taken_lines None now recording r has = tt
taken_lines (Some text) None recording r has = absurd has
taken_lines (Some text) (Some rest) recording r (events, given, has) = (events, given, (recording.ended.items, has.watches))

-- the operations and the writes that stand for words, in the order of their starts
pub record AreAllInOrder (events : List Event) (ops : List Operation) : Type 0 where
  pub trace : IsTrace ops
  pub same : IsPermutation (operations_and_writes events) ops

pub with_writes : (events : List Event) (recording : Recording) (ops all : List Operation) → HasRecorded events recording → AreInOrder events ops → IsPermutation (ops ++ recording.writes.items) all
    → IsNonDecreasingBy (λ (op : Operation). op.start) all → AreAllInOrder events all
with_writes events recording ops all has order moved sorted = record {
  trace = IsTrace-sorted (ops ++ recording.writes.items) all
      (All-append IsOperation ops recording.writes.items (all_observed ops order.trace) (subst (All IsOperation) (sym has.writes) (writes_are events))) moved sorted;
  same = same;
}
  where
    same : IsPermutation (operations_and_writes events) all
    same =
        IsPermutation-trans (operations_and_writes events) (writes_told events ++ operations events) all (all_moved (writes_told events) (operations events))
        (IsPermutation-trans (writes_told events ++ operations events) (operations events ++ writes_told events) all (IsPermutation-append_comm (writes_told events) (operations events))
        (IsPermutation-trans (operations events ++ writes_told events) (ops ++ writes_told events) all
        (IsPermutation-append (operations events) ops (writes_told events) (writes_told events) order.same (IsPermutation-refl (writes_told events)))
        (subst (λ l. IsPermutation (ops ++ l) all) has.writes moved)))

-- what is judged of a trace is one
pub judged_trace : (events : List Event) (ops judged : List Operation) → IsTrace ops → judged ≡ flat_map (judged_part events) ops → IsTrace judged
judged_trace events ops judged is all = subst IsTrace (sym all) (judged_traced events ops is)

known_final : (events : List Event) (w : WatchValue) → HasTaken events w → (g : ℕ) (words : List GranuleWord) → find_word words g ≡ find_word (final_words events) g
    → cond (is_none (unknown_in w g)) (find_word words g) None ≡ final_of events g
known_final events w has g words same = ap₂ (λ (u : Option ℕ) (o : Option ℕ). cond (is_none u) o None) (since_told events w g (granule w g) has refl) same

pub told_trace : (events : List Event) (recording : Recording) (ops known : List Operation) (opening last kept : List GranuleWord) (trace : TraceValue) → HasRecorded events recording → AreAllInOrder events ops
    → known ≡ flat_map (judged_part events) ops → ((g : ℕ) → find_word opening g ≡ get nat_cmp recording.opening g) → ((g : ℕ) → find_word last g ≡ get nat_cmp recording.final_words g)
    → ((g : ℕ) → find_word kept g ≡ cond (is_none (unknown_in recording.watch g)) (find_word last g) None) → trace ≡ record { opening = opening; operations = known }
    → (r : RecordedValue) → r ≡ record { region = None; trace = trace; final_words = kept; refusals = [] } → IsToldTrace events r
told_trace events recording ops known opening last kept trace has order all first final some is r made =
    subst (IsToldTrace events) (sym made) (record {
      region = refl;
      opening = λ g. ap (λ (t : TraceValue). find_word t.opening g) is ∙ (first g ∙ has.opening g);
      operations = subst (IsPermutation (judged events)) (sym (ap (λ (t : TraceValue). t.operations) is ∙ all)) (judged_permutation events (operations_and_writes events) ops order.same);
      final_words = λ g. some g ∙ known_final events recording.watch (recording.ended.items, has.watches) g last (final g ∙ has.final_words g);
      refusals = refl;
    })
