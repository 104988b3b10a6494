-- one line more
use Rattle.std.proofs.Common.{◌≡◌, ◌≢◌, ℕ, ◌≤◌, filter, get_or, not, ◌==◌, ◌||◌, ◌⊎◌, ◌<◌, List, [], ◌∷◌, ◌++◌, All, Option, None, Some, IfErr, IfOk, IfSome, inl, inr, Ok, Err, Result, IsErrAnd, Bool, Vec, true, false, true≢false, eq-eqb, length, length-append, refl, sym, ap, subst, ◌∙◌, arith}
use Rattle.std.specs.Prelude.{⊤}
use Rattle.std.specs.List.{AllPairs, Contains, last_or}
use Rattle.std.specs.Option.{option_map_or}
use Rattle.std.specs.declared.alloc.Global.{Global}
use Rattle.std.proofs.lemmas.List.Elements.{All-cons, All-contains, All-contains_itself, All-filter, All-nil, All-push, All-weaker, Contains-get_or}
use Rattle.std.proofs.lemmas.List.{get_or_push}
use Rattle.std.proofs.lemmas.List.Quantifiers.{all_pairs_push}
use Rattle.chi_events.specs.Ended.{are_ended, is_end}
use Rattle.chi_events.specs.declared.event.Event.{Event}
use Rattle.chi_watch.specs.declared.ending.Ending.{Ending}
use Rattle.chi_search.specs.Looks.{Grew, GrewBy}
use Rattle.chi_search.proofs.Growing.{at_least_after, at_least_before, looked_none, some_after}
use Rattle.chi_trace.specs.Words.{word_or_zero}
use Rattle.chi_judge.proofs.AsFar.{as_far_by}
use Rattle.chi_watch.proofs.Reached.{reached_wider}
use Rattle.chi_watch.specs.Judged.{judged}
use Rattle.chi_watch.specs.WordsTold.{openings}
use Rattle.chi_watch.specs.Reaching.{IsFoundAtEnd, IsReachedBy}
use Rattle.chi_watch.specs.Undecided.{IsExplainedAsFar, IsExplainedTo, states_for}
use Rattle.chi_watch.specs.Watches.{HasTaken, IsUnexplained, WatchValue}
use Rattle.chi_watch_text.specs.FoundGranule.{is_found, with_quiet}
use Rattle.chi_watch_text.specs.Lines.{AreTold}
use Rattle.chi_watch_text.specs.declared.quiet.Quiet.{Quiet}
use Rattle.chi_watch_text.specs.declared.watched.FoundGranule.{FoundGranule}
use Rattle.chi_watch_text.specs.declared.watched.Watched.{Watched}
use Rattle.chi_watch_text.specs.Kept.{AreKept, AreKeptOf}
use Rattle.chi_watch_text.specs.Outcomes.{AreAsFar, AreListed, AreTaken, AreReachedBy, EndsAt, HasTakenLines, IsFoundBy, IsPast, IsQuietBy, IsSeenBy, IsSettled, IsStillFound, IsTold, IsWatched, ReachedBy, SaysAtEnd, SaysOf, TakesEvent, WentBy}
use Rattle.chi_watch_text.specs.Reading.{GivesNext, HasGiven, HasGivenAll, HasGivenOf, IsOfLast}
use Rattle.chi_watch_text.specs.declared.line_format.LineFormat.{LineFormat}
use Rattle.chi_watch_text.specs.declared.reading.Reading.{Reading}
use Rattle.chi_watch_text.specs.Waiting.{first_waiting}
use Rattle.chi_flits.specs.Effects.{HasSeen}
use Rattle.chi_flits.specs.declared.flit.Flit.{Flit}
use Rattle.chi_watch_text.proofs.Readings.{all_told}
use Rattle.chi_watch_text.proofs.Refused.{TookLines}

-- of some events the last tells the end or does not
last_more : (o : Option Event) (events : List Event) (e : Event) → last_or o (events ++ e ∷ []) ≡ Some e
last_more o [] e = refl
last_more o (d ∷ events) e = last_more (Some d) events e

ended_more : (events : List Event) (e : Event) → are_ended (events ++ e ∷ []) ≡ is_end e
ended_more events e = ap (λ (o : Option Event). option_map_or is_end o false) (last_more None events e)

-- nothing was read
pub none_taken : (start : Option (List ℕ)) (w : WatchValue) (r : Reading) (found : List FoundGranule) (quiet : List Quiet) → HasTaken [] w → HasGivenOf start [] r start → found ≡ [] → quiet ≡ []
    → HasTakenLines start 0 false found quiet w r start
none_taken None w r found quiet has given none calm = tt
none_taken (Some text) w r found quiet has given none calm = record {
  events = [];
  given = given;
  taken = has;
  times = All-nil (λ e. e.time ≤ 0);
  ended_is = refl;
  found_by = subst (All (IsFoundBy r.format text w.shown)) (sym none) (All-nil (IsFoundBy r.format text w.shown));
  quiet_by = subst (All (IsQuietBy r.format text)) (sym calm) (All-nil (IsQuietBy r.format text));
}

-- the last of some events is none earlier than the others
latest : (events : List Event) (e : Event) (w : WatchValue) → HasTaken (events ++ e ∷ []) w → All (λ d. d.time ≤ e.time) (events ++ e ∷ [])
latest events e w has k d below =
    subst (λ (last : Event). (get_or (events ++ e ∷ []) k d).time ≤ last.time) (get_or_push events e d (length events) refl)
    (has.1.tells.in_time k (length events) d (omega (arith, below, length-append events (e ∷ []))) (omega (arith, length-append events (e ∷ []))))

-- Each granule is found once.
found_once : (it : FoundGranule) (found : List FoundGranule) → is_found it.granule found ≡ false → AllPairs (λ a b. a.granule ≢ b.granule) found → AllPairs (λ a b. a.granule ≢ b.granule) (found ++ it ∷ [])
found_once it found is once = all_pairs_push (λ (x y : FoundGranule). x.granule ≢ y.granule) found it once (others found is)
  where
    others : (l : List FoundGranule) → is_found it.granule l ≡ false → All (λ (x : FoundGranule). x.granule ≢ it.granule) l
    others [] none = All-nil (λ (x : FoundGranule). x.granule ≢ it.granule)
    others (f ∷ l) none = by_head (f.granule == it.granule) refl none (others l)
      where
        by_head : (b : Bool) → (f.granule == it.granule) ≡ b → (b || is_found it.granule l) ≡ false → (is_found it.granule l ≡ false → All (λ (x : FoundGranule). x.granule ≢ it.granule) l)
            → All (λ (x : FoundGranule). x.granule ≢ it.granule) (f ∷ l)
        by_head true same none rest = absurd (true≢false none)
        by_head false other none rest = All-cons (λ (x : FoundGranule). x.granule ≢ it.granule) f l (λ same. true≢false (sym (eq-eqb f.granule it.granule same) ∙ other)) (rest none)

-- those that were looked at are settled
pub still_first : (w : WatchValue) (quiet : List Quiet) (found : List FoundGranule) → All (IsStillFound w quiet found) found
still_first w quiet found = All-weaker (Contains found) (IsStillFound w quiet found) (λ f here. inl here) found (All-contains_itself found)

pub still_more : (w : WatchValue) (quiet : List Quiet) (found before after : List FoundGranule) (i : ℕ) (d : Quiet) → i < length quiet → IsSettled w (get_or quiet i d) before after
    → All (IsStillFound w quiet found) before → All (IsStillFound w quiet found) after
still_more w quiet found before after i d below (inl same) all = subst (All (IsStillFound w quiet found)) (sym same) all
still_more w quiet found before after i d below (inr (f, is, other, noted)) all =
    subst (All (IsStillFound w quiet found)) (sym is) (All-push (IsStillFound w quiet found) before f all (inr (get_or quiet i d, Contains-get_or quiet i d below, noted)))

pub once_more : (w : WatchValue) (q : Quiet) (before after : List FoundGranule) → IsSettled w q before after → AllPairs (λ a b. a.granule ≢ b.granule) before → AllPairs (λ a b. a.granule ≢ b.granule) after
once_more w q before after (inl same) once = subst (AllPairs (λ (x y : FoundGranule). x.granule ≢ y.granule)) (sym same) once
once_more w q before after (inr (f, is, other, noted)) once = subst (AllPairs (λ (x y : FoundGranule). x.granule ≢ y.granule)) (sym is) (found_once f before other once)

module _ {P : Type 0} (w : WatchValue) (looked : P → ℕ → Type 0) where
  -- what is said of how far those can be explained that are found more
  pub reached_same : (old new : P) (budget : ℕ) (before after : List FoundGranule) → after ≡ before → AreReachedBy w looked old new budget before after
  reached_same old new budget before after same events has =
      subst (All (λ f. Contains before f ⊎ IsReachedBy looked old new budget f.reach f.cut_short)) (sym same)
      (All-weaker (Contains before) (λ f. Contains before f ⊎ IsReachedBy looked old new budget f.reach f.cut_short) (λ f here. inl here) before (All-contains_itself before))

  reached_around : (old middle new last : P) (budget : ℕ) (f : FoundGranule) → Grew looked old middle → Grew looked new last → IsReachedBy looked middle new budget f.reach f.cut_short
      → IsReachedBy looked old last budget f.reach f.cut_short
  reached_around old middle new last budget f first further =
      reached_wider looked middle new old last (λ least whole. at_least_before looked old new last least (at_least_after looked old middle new least first whole) further) budget f.reach f.cut_short

  -- some, and then others
  pub reached_more : (old middle new : P) (budget : ℕ) (before between after : List FoundGranule) → Grew looked old middle → Grew looked middle new
      → AreReachedBy w looked old middle budget before between → AreReachedBy w looked middle new budget between after → AreReachedBy w looked old new budget before after
  reached_more old middle new budget before between after some more first further events has =
      All-weaker (λ f. Contains between f ⊎ IsReachedBy looked middle new budget f.reach f.cut_short) (λ f. Contains before f ⊎ IsReachedBy looked old new budget f.reach f.cut_short)
      (λ f is. by_side f is) after (further events has)
    where
      passed : (f : FoundGranule) → Contains before f ⊎ IsReachedBy looked old middle budget f.reach f.cut_short → Contains before f ⊎ IsReachedBy looked old new budget f.reach f.cut_short
      passed f (inl here) = inl here
      passed f (inr is) = inr (reached_around old old middle new budget f (looked_none looked old) more is)

      by_side : (f : FoundGranule) → Contains between f ⊎ IsReachedBy looked middle new budget f.reach f.cut_short → Contains before f ⊎ IsReachedBy looked old new budget f.reach f.cut_short
      by_side f (inl here) = passed f (All-contains (λ x. Contains before x ⊎ IsReachedBy looked old middle budget x.reach x.cut_short) between f (first events has) here)
      by_side f (inr is) = inr (reached_around old middle new new budget f some (looked_none looked new) is)

  -- so of each that is found, and of each found before
  pub reached_all : (old middle new last : P) (budget : ℕ) (before after : List FoundGranule) → Grew looked old middle → Grew looked middle new → Grew looked new last
      → (events : List Event) → HasTaken events w → AreReachedBy w looked middle new budget before after
      → All (λ f. IsReachedBy looked old middle budget f.reach f.cut_short) before → All (λ f. IsReachedBy looked old last budget f.reach f.cut_short) after
  reached_all old middle new last budget before after some more rest events has further all =
      All-weaker (λ f. Contains before f ⊎ IsReachedBy looked middle new budget f.reach f.cut_short) (λ f. IsReachedBy looked old last budget f.reach f.cut_short) (λ f is. by_side f is) after (further events has)
    where
      by_side : (f : FoundGranule) → Contains before f ⊎ IsReachedBy looked middle new budget f.reach f.cut_short → IsReachedBy looked old last budget f.reach f.cut_short
      by_side f (inl here) = reached_around old old middle last budget f (looked_none looked old) (some_after looked middle new last more rest)
          (All-contains (λ x. IsReachedBy looked old middle budget x.reach x.cut_short) before f all here)
      by_side f (inr is) = reached_around old middle new last budget f some rest is

-- of those that became quiet one is put in its place
quiet_noted : (P : Quiet → Type 0) (seen : Option ℕ) (line : ℕ) (quiet : List Quiet) → All P quiet → IfSome seen (λ g. P (record { granule = g; line = line })) → All P (with_quiet seen line quiet)
quiet_noted P None line quiet all one = all
quiet_noted P (Some g) line quiet all one =
    All-push P (filter (λ q. not (q.granule == g)) quiet) (record { granule = g; line = line }) (All-filter (λ q. not (q.granule == g)) P quiet all) one

-- one event more was taken
pub event_taken : (start now later : Option (List ℕ)) (time : ℕ) (ended : Bool) (found : List FoundGranule) (quiet after : List Quiet) (old new : WatchValue) (r s : Reading) (e : Event) (seen : Option ℕ)
    → HasTakenLines start time ended found quiet old r now → GivesNext start r now (Some e) s later → s.format ≡ r.format → TakesEvent old e new seen → new.shown ≡ old.shown → after ≡ with_quiet seen s.number quiet
    → HasTakenLines start e.time (is_end e) found after new s later
event_taken None now later time ended found quiet after old new r s e seen has gives format takes shown is = tt
event_taken (Some text) None later time ended found quiet after old new r s e seen has gives format takes shown is = absurd has
event_taken (Some text) (Some rest) later time ended found quiet after old new r s e seen has gives format takes shown is = by_rest later (gives has.events has.given).0 (gives has.events has.given).1
  where
    taken : HasTaken (has.events ++ e ∷ []) new
    taken = takes.taken has.events has.taken

    by_rest : (left : Option (List ℕ)) → HasGivenOf (Some text) (has.events ++ e ∷ []) s left → IsOfLast (Some text) has.events e s left → HasTakenLines (Some text) e.time (is_end e) found after new s left
    by_rest None given last = absurd given
    by_rest (Some left) given last = record {
      events = has.events ++ e ∷ [];
      given = given;
      taken = taken;
      times = latest has.events e new taken;
      ended_is = sym (ended_more has.events e);
      found_by = subst (λ (f : LineFormat). All (IsFoundBy f text new.shown) found) (sym format) (subst (λ (n : ℕ). All (IsFoundBy r.format text n) found) (sym shown) has.found_by);
      quiet_by = subst (All (IsQuietBy s.format text)) (sym is)
          (quiet_noted (IsQuietBy s.format text) seen s.number quiet (subst (λ (f : LineFormat). All (IsQuietBy f text) quiet) (sym format) has.quiet_by) (by_seen seen takes.unexplained));
    }
      where
        by_seen : (o : Option ℕ) → IfSome o (λ g. (events : List Event) → HasTaken events old → IsUnexplained (events ++ e ∷ []) g) → IfSome o (λ g. IsSeenBy s.format text g s.number)
        by_seen None none = tt
        by_seen (Some g) none = record { events = has.events; event = e; more = s.pending.items; rest = left; told = last; unexplained = none has.events has.taken }

-- all events of a time are told
past : (text rest : List ℕ) (events : List Event) (time : ℕ) (r s : Reading) (next : Option Event) (later : Option (List ℕ)) → HasGiven text events r rest → All (λ d. d.time ≤ time) events
    → GivesNext (Some text) r (Some rest) next s later → s.format ≡ r.format → IfSome next (λ e. time < e.time) → IsPast r.format text events
past text rest events time r s None later has times gives format after = inl (all_told r.format text events s (gives events has))
past text rest events time r s (Some e) later has times gives format after = by_rest later (gives events has).0
  where
    by_rest : (left : Option (List ℕ)) → HasGivenOf (Some text) (events ++ e ∷ []) s left → IsPast r.format text events
    by_rest None given = absurd given
    by_rest (Some left) given = inr (inl (
      e,
      (s.number, s.pending.items, left, subst (λ (f : LineFormat). AreTold f text s.number (events ++ e ∷ []) s.pending.items left) format given.told),
      All-weaker (λ d. d.time ≤ time) (λ d. d.time < e.time) (λ d le. omega (arith, le, after)) events times,
    ))

-- those that are still unexplained once all events of a time are told are found
pub found_past : (text rest : List ℕ) (time : ℕ) (ended : Bool) (found found_after : List FoundGranule) (quiet : List Quiet) (w : WatchValue) (r : Reading) → (has : AreTaken text time ended found quiet w r rest)
    → IsPast r.format text has.events → All (IsStillFound w quiet found) found_after → All (IsFoundBy r.format text w.shown) found_after
found_past text rest time ended found found_after quiet w r has past each = All-weaker (IsStillFound w quiet found) (IsFoundBy r.format text w.shown) is_found_by found_after each
  where
    is_found_by : (f : FoundGranule) → IsStillFound w quiet found f → IsFoundBy r.format text w.shown f
    is_found_by f (inl before) = All-contains (IsFoundBy r.format text w.shown) found f has.found_by before
    is_found_by f (inr (q, calm, noted)) = record {
      seen = subst (λ g. IsSeenBy r.format text g f.line) (sym noted.granule)
          (subst (IsSeenBy r.format text q.granule) (sym noted.line) (All-contains (IsQuietBy r.format text) quiet q has.quiet_by calm));
      events = has.events;
      past = past;
      unexplained = noted.unexplained has.events has.taken;
      reach = noted.reach has.events has.taken;
    }

-- so those of a time that is past
found_more : (text rest : List ℕ) (time : ℕ) (ended : Bool) (found found_after : List FoundGranule) (quiet : List Quiet) (w : WatchValue) (r s : Reading) (next : Option Event) (later : Option (List ℕ))
    (is_past : Bool) → AreTaken text time ended found quiet w r rest → GivesNext (Some text) r (Some rest) next s later → s.format ≡ r.format → (is_past ≡ true → IfSome next (λ e. time < e.time))
    → (is_past ≡ false → found_after ≡ found) → (is_past ≡ true → All (IsStillFound w quiet found) found_after) → All (IsFoundBy r.format text w.shown) found_after
found_more text rest time ended found found_after quiet w r s next later false has gives format after waits each = subst (All (IsFoundBy r.format text w.shown)) (sym (waits refl)) has.found_by
found_more text rest time ended found found_after quiet w r s next later true has gives format after waits each =
    found_past text rest time ended found found_after quiet w r has (past text rest has.events time r s next later has.given has.times gives format (after refl)) (each refl)

-- also where the judging of them fails
pub found_so_far : (start now later : Option (List ℕ)) (time : ℕ) (ended : Bool) (found found_after : List FoundGranule) (quiet : List Quiet) (w : WatchValue) (r s : Reading) (next : Option Event) (is_past : Bool)
    → HasTakenLines start time ended found quiet w r now → GivesNext start r now next s later → s.format ≡ r.format → (is_past ≡ true → IfSome next (λ e. time < e.time))
    → (is_past ≡ false → found_after ≡ found) → (is_past ≡ true → All (IsStillFound w quiet found) found_after) → IfSome start (λ text. All (IsFoundBy r.format text w.shown) found_after)
found_so_far None now later time ended found found_after quiet w r s next is_past has gives format after waits each = tt
found_so_far (Some text) None later time ended found found_after quiet w r s next is_past has gives format after waits each = absurd has
found_so_far (Some text) (Some rest) later time ended found found_after quiet w r s next is_past has gives format after waits each =
    found_more text rest time ended found found_after quiet w r s next later is_past has gives format after waits each

-- those of a time that is past are found, and no other is left that became quiet
pub settled : (start now later : Option (List ℕ)) (time : ℕ) (ended : Bool) (found found_after : List FoundGranule) (quiet quiet_after : List Quiet) (w : WatchValue) (r s : Reading) (next : Option Event) (is_past : Bool)
    → HasTakenLines start time ended found quiet w r now → GivesNext start r now next s later → s.format ≡ r.format → (is_past ≡ true → IfSome next (λ e. time < e.time))
    → (is_past ≡ false → (found_after ≡ found) × (quiet_after ≡ quiet)) → (is_past ≡ true → quiet_after ≡ []) → (is_past ≡ true → All (IsStillFound w quiet found) found_after)
    → HasTakenLines start time ended found_after quiet_after w r now
settled None now later time ended found found_after quiet quiet_after w r s next is_past has gives format after waits cleared each = tt
settled (Some text) None later time ended found found_after quiet quiet_after w r s next is_past has gives format after waits cleared each = absurd has
settled (Some text) (Some rest) later time ended found found_after quiet quiet_after w r s next is_past has gives format after waits cleared each = record {
  events = has.events;
  given = has.given;
  taken = has.taken;
  times = has.times;
  ended_is = has.ended_is;
  found_by = found_more text rest time ended found found_after quiet w r s next later is_past has gives format after (λ wait. (waits wait).0) each;
  quiet_by = by_test is_past waits cleared;
}
  where
    by_test : (b : Bool) → (b ≡ false → (found_after ≡ found) × (quiet_after ≡ quiet)) → (b ≡ true → quiet_after ≡ []) → All (IsQuietBy r.format text) quiet_after
    by_test false waits cleared = subst (All (IsQuietBy r.format text)) (sym (waits refl).1) has.quiet_by
    by_test true waits cleared = subst (All (IsQuietBy r.format text)) (sym (cleared refl)) (All-nil (IsQuietBy r.format text))

-- where it does not keep going none is found before it stops
pub none_found : (is_past stop going : Bool) (found after : List FoundGranule) → (going ≡ false → found ≡ []) → (is_past ≡ false → after ≡ found) → stop ≡ false
    → (stop ≡ false → is_past ≡ true → going ≡ false → after ≡ []) → going ≡ false → after ≡ []
none_found true stop going found after first waits goes none ends = none goes refl ends
none_found false stop going found after first waits goes none ends = waits refl ∙ first ends

-- what is said of the events
says_of : (w : WatchValue) (events : List Event) → HasTaken events w → (ending : Ending) → SaysAtEnd w ending → SaysOf w.shown events ending
says_of w events has ending says = record {
  whole = λ none_un none_dec. says.whole none_un none_dec events has;
  each = λ g. says.each g events has;
  unexplained = All-weaker (λ f. (all : List Event) → HasTaken all w → IsFoundAtEnd w.shown all f) (IsFoundAtEnd w.shown events) (λ f is. is events has) ending.unexplained.items says.unexplained;
  undecided = All-weaker (λ u. (all : List Event) → HasTaken all w → IsExplainedTo all u) (IsExplainedTo events) (λ u is. is events has) ending.undecided.items says.undecided;
}

-- what is said of the text where it ends at its end
pub at_end : (start now later : Option (List ℕ)) (time : ℕ) (ended : Bool) (found : List FoundGranule) (quiet : List Quiet) (going : Bool) (w : WatchValue) (r s : Reading) (kept : Option (Vec ℕ Global)) (watched : Watched)
    → HasTakenLines start time ended found quiet w r now → GivesNext start r now None s later → r.pending.items ≡ [] → AllPairs (λ a b. a.granule ≢ b.granule) found → (going ≡ false → found ≡ [])
    → IsTold w found ended kept watched → watched.ending ≢ None → IfSome watched.ending (SaysAtEnd w) → ((flits : List Flit) → HasSeen flits s.port.port → watched.waiting.items ≡ first_waiting flits w.outstanding.requests)
    → AreKeptOf start kept now → IfSome start (λ text. IsWatched r.format text going w.shown watched)
at_end None now later time ended found quiet going w r s kept watched has gives whole once first told some says waits are_kept = tt
at_end (Some text) None later time ended found quiet going w r s kept watched has gives whole once first told some says waits are_kept = absurd has
at_end (Some text) (Some rest) later time ended found quiet going w r s kept watched has gives whole once first told some says waits are_kept = record {
  events = has.events;
  count = r.number;
  rest = rest;
  told = subst (λ (l : List Event). AreTold r.format text r.number has.events l rest) whole has.given.told;
  found = subst (All (IsFoundBy r.format text w.shown)) (sym told.found_is) has.found_by;
  once = subst (AllPairs (λ (x y : FoundGranule). x.granule ≢ y.granule)) (sym told.found_is) once;
  ends = subst (λ l. EndsAt r.format text going w.shown has.events l watched.ending) (sym told.found_is) (by_ending watched.ending some says);
  counted = told.counted has.events has.taken;
  watch = w;
  taken = has.taken;
  listed = by_list watched.ending some (gives has.events has.given);
  granules = told.granules;
  unjudged_is = told.unjudged_is;
  ended_is = told.ended_is ∙ has.ended_is;
  kept = subst (λ (o : Option (Vec ℕ Global)). AreKept text o rest) (sym told.kept_is) are_kept;
}
  where
    by_list : (o : Option Ending) → o ≢ None → HasGivenAll r.format text has.events s → AreListed r.format text has.events w o watched.waiting.items
    by_list None is_some all = absurd (is_some refl)
    by_list (Some ending) is_some all = (s.number, all.rest, all.told, all.blank, waits all.told.read.seen.flits all.seen.flits)

    by_ending : (o : Option Ending) → o ≢ None → IfSome o (SaysAtEnd w) → EndsAt r.format text going w.shown has.events found o
    by_ending None is_some said = absurd (is_some refl)
    by_ending (Some ending) is_some said = (all_told r.format text has.events s (gives has.events has.given), says_of w has.events has.taken ending said, first)

-- what is said of the text where it stops
pub at_stop : (start now later : Option (List ℕ)) (time : ℕ) (ended : Bool) (found : List FoundGranule) (quiet : List Quiet) (going is_past : Bool) (w : WatchValue) (r s : Reading) (next : Option Event) (kept : Option (Vec ℕ Global)) (watched : Watched)
    → HasTakenLines start time ended found quiet w r now → GivesNext start r now next s later → s.format ≡ r.format → (is_past ≡ true → IfSome next (λ e. time < e.time)) → (is_past ≡ true → r.pending.items ≡ [])
    → AllPairs (λ a b. a.granule ≢ b.granule) found → (is_past ≡ true) × (going ≡ false) × (0 < length found) → IsTold w found ended kept watched → watched.ending ≡ None → watched.waiting.items ≡ []
    → AreKeptOf start kept now → IfSome start (λ text. IsWatched r.format text going w.shown watched)
at_stop None now later time ended found quiet going is_past w r s next kept watched has gives format after whole once stops told none unlisted are_kept = tt
at_stop (Some text) None later time ended found quiet going is_past w r s next kept watched has gives format after whole once stops told none unlisted are_kept = absurd has
at_stop (Some text) (Some rest) later time ended found quiet going is_past w r s next kept watched has gives format after whole once stops told none unlisted are_kept = record {
  events = has.events;
  count = r.number;
  rest = rest;
  told = subst (λ (l : List Event). AreTold r.format text r.number has.events l rest) (whole stops.0) has.given.told;
  found = subst (All (IsFoundBy r.format text w.shown)) (sym told.found_is) has.found_by;
  once = subst (AllPairs (λ (x y : FoundGranule). x.granule ≢ y.granule)) (sym told.found_is) once;
  ends = subst (EndsAt r.format text going w.shown has.events watched.found.items) (sym none)
      (stops.1, subst (λ l. 0 < length l) (sym told.found_is) stops.2, past text rest has.events time r s next later has.given has.times gives format (after stops.0));
  counted = told.counted has.events has.taken;
  watch = w;
  taken = has.taken;
  listed = subst (λ (o : Option Ending). AreListed r.format text has.events w o watched.waiting.items) (sym none) unlisted;
  granules = told.granules;
  unjudged_is = told.unjudged_is;
  ended_is = told.ended_is ∙ has.ended_is;
  kept = subst (λ (o : Option (Vec ℕ Global)). AreKept text o rest) (sym told.kept_is) are_kept;
}

-- so in the format and with as many operations shown as were asked for
pub watched_as : (start : Option (List ℕ)) (k format : LineFormat) (n around : ℕ) (going : Bool) (watched : Watched) → k ≡ format → n ≡ around → IfSome start (λ text. IsWatched k text going n watched)
    → IfSome start (λ text. IsWatched format text going around watched)
watched_as start k format n around going watched same_format same_number is =
    subst (λ (m : ℕ). IfSome start (λ text. IsWatched format text going m watched)) same_number (subst (λ (f : LineFormat). IfSome start (λ text. IsWatched f text going n watched)) same_format is)

pub found_as : (start : Option (List ℕ)) (k format : LineFormat) (n around : ℕ) (found : List FoundGranule) → k ≡ format → n ≡ around → IfSome start (λ text. All (IsFoundBy k text n) found)
    → IfSome start (λ text. All (IsFoundBy format text around) found)
found_as start k format n around found same_format same_number is =
    subst (λ (m : ℕ). IfSome start (λ text. All (IsFoundBy format text m) found)) same_number (subst (λ (f : LineFormat). IfSome start (λ text. All (IsFoundBy f text n) found)) same_format is)

-- and what was found by then
pub kept_at_fault : {A E : Type 0} (start : Option (List ℕ)) (P : List ℕ → Type 0) (r : Result A E) → IfSome start P → IfSome start (λ text. IfErr r (λ _. P text))
kept_at_fault None P r is = tt
kept_at_fault (Some text) P (Ok a) is = tt
kept_at_fault (Some text) P (Err f) is = is

-- what ends with a fault answers nothing
pub not_ok : {A E : Type 0} (r : Result A E) (f : E) (start : Option (List ℕ)) (P : List ℕ → A → Type 0) → IsErrAnd r (λ y. y ≡ f) → IfSome start (λ text. IfOk r (P text))
not_ok (Ok a) f start P is = absurd is
not_ok (Err y) f None P is = tt
not_ok (Err y) f (Some text) P is = tt

-- and what ends with an answer has no fault
pub no_fault : (start : Option (List ℕ)) → IfSome start (λ text. ⊤)
no_fault None = tt
no_fault (Some text) = tt

-- a fault that is passed on
pub passed_on : {A E : Type 0} (r : Result A E) (f : E) (P : Result A E → Type 0) → IsErrAnd r (λ y. y ≡ f) → P (Err f) → P r
passed_on (Ok a) f P is h = absurd is
passed_on (Err y) f P is h = subst (λ z. P (Err z)) (sym is) h

-- for each granule that is not decided at least so many states were looked at
pub undecided_after : {P : Type 0} (looked : P → ℕ → Type 0) (old middle new : P) (budget : ℕ) (watched : Watched) → Grew looked old middle → WentBy looked middle new budget watched
    → WentBy looked old new budget watched
undecided_after looked old middle new budget watched some went = by_ending watched.ending went
  where
    by_ending : (o : Option Ending) → IfSome o (λ ending. All (λ g. GrewBy looked middle new budget) ending.undecided.items) → IfSome o (λ ending. All (λ g. GrewBy looked old new budget) ending.undecided.items)
    by_ending None all = tt
    by_ending (Some ending) all =
        All-weaker (λ g. GrewBy looked middle new budget) (λ g. GrewBy looked old new budget) (λ g whole. at_least_after looked old middle new budget some whole) ending.undecided.items all

-- each of these is explained as far as was found, of the events of the lines
pub far_at_end : {P : Type 0} (looked : P → ℕ → Type 0) (old middle new : P) (budget : ℕ) → Grew looked old middle
    → (start now later : Option (List ℕ)) (time : ℕ) (ended : Bool) (found : List FoundGranule) (quiet : List Quiet) (w : WatchValue) (r s : Reading) (o : Option Ending)
    → HasTakenLines start time ended found quiet w r now → GivesNext start r now None s later
    → IfSome o (λ ending. All (λ u. (events : List Event) → HasTaken events w → IsExplainedAsFar looked middle new (states_for budget ending.undecided.items) events u) ending.undecided.items)
    → IfSome start (λ text. IfSome o (λ ending. AreAsFar looked old new budget r.format text ending.undecided.items))
far_at_end looked old middle new budget some None now later time ended found quiet w r s o has gives far = tt
far_at_end looked old middle new budget some (Some text) None later time ended found quiet w r s o has gives far = absurd has
far_at_end looked old middle new budget some (Some text) (Some rest) later time ended found quiet w r s None has gives far = tt
far_at_end looked old middle new budget some (Some text) (Some rest) later time ended found quiet w r s (Some ending) has gives far =
    let undecided = ending.undecided.items in
    let states = states_for budget undecided in
    record {
      events = has.events;
      told = all_told r.format text has.events s (gives has.events has.given);
      far = All-weaker (λ u. (events : List Event) → HasTaken events w → IsExplainedAsFar looked middle new states events u) (IsExplainedAsFar looked old new states has.events)
          (λ u is. as_far_by (GrewBy looked middle new states) (GrewBy looked old new states) (λ whole. at_least_after looked old middle new states some whole) (judged has.events) u.granule (word_or_zero (openings has.events) u.granule) u.explained
          (is has.events has.taken)) undecided far;
    }

-- and for each of which it is not known how far it can be explained
pub reached_by_found : {P : Type 0} (looked : P → ℕ → Type 0) (old new : P) (budget : ℕ) (found : List FoundGranule) (watched : Watched) → watched.found.items ≡ found
    → All (λ f. IsReachedBy looked old new budget f.reach f.cut_short) found → IfSome watched.ending (λ ending. All (λ f. IsReachedBy looked old new budget f.reach f.cut_short) ending.unexplained.items)
    → ReachedBy looked old new budget watched
reached_by_found looked old new budget found watched same all at_end = record {
  found = subst (All (λ f. IsReachedBy looked old new budget f.reach f.cut_short)) (sym same) all;
  at_end = at_end;
}

-- the granules that are found at the end are so of the events that the watch took
pub reached_at_end : {P : Type 0} (looked : P → ℕ → Type 0) (old middle new : P) (budget : ℕ) (w : WatchValue) → Grew looked old middle → (events : List Event) → HasTaken events w
    → (o : Option Ending) → IfSome o (λ ending. All (λ f. (all : List Event) → HasTaken all w → IsReachedBy looked middle new budget f.reach f.cut_short) ending.unexplained.items)
    → IfSome o (λ ending. All (λ f. IsReachedBy looked old new budget f.reach f.cut_short) ending.unexplained.items)
reached_at_end looked old middle new budget w some events has None all = tt
reached_at_end looked old middle new budget w some events has (Some ending) all =
    All-weaker (λ f. (told : List Event) → HasTaken told w → IsReachedBy looked middle new budget f.reach f.cut_short) (λ f. IsReachedBy looked old new budget f.reach f.cut_short)
    (λ f is. reached_wider looked middle new old new (λ least whole. at_least_after looked old middle new least some whole) budget f.reach f.cut_short (is events has)) ending.unexplained.items all

-- the events of those lines were taken
pub took : (start now : Option (List ℕ)) (time : ℕ) (ended : Bool) (found : List FoundGranule) (quiet : List Quiet) (w : WatchValue) (r : Reading) → HasTakenLines start time ended found quiet w r now
    → TookLines start w r now
took None now time ended found quiet w r has = tt
took (Some text) None time ended found quiet w r has = absurd has
took (Some text) (Some rest) time ended found quiet w r has = (has.events, has.given, has.taken)

-- those were found
pub found_of : (start now : Option (List ℕ)) (time : ℕ) (ended : Bool) (found : List FoundGranule) (quiet : List Quiet) (w : WatchValue) (r : Reading) → HasTakenLines start time ended found quiet w r now
    → IfSome start (λ text. All (IsFoundBy r.format text w.shown) found)
found_of None now time ended found quiet w r has = tt
found_of (Some text) None time ended found quiet w r has = absurd has
found_of (Some text) (Some rest) time ended found quiet w r has = has.found_by
