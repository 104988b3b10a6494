-- what a watch knows once it took an event
use Rattle.std.specs.Prelude.{◌+◌, ◌-◌, if◌then◌else◌, is_none, length, min, option_and_then, option_map, option_to_list}
use Rattle.std.proofs.Common.{◌≡◌, ℕ, ◌/◌, ◌^◌, ◌==◌, ◌<◌, ◌≤◌, ◌||◌, nat_le, Bool, true, false, List, [], ◌∷◌, ◌++◌, All, Option, Some, None, IfSome, IsTrue, is_some, inl, inr, refl, sym, ap, subst, ◌∙◌, eqb-true, eq-eqb, true≢false, arith, length-append}
use Rattle.std.specs.List.{list_any}
use Rattle.std.proofs.lemmas.Bool.{leb-false, or_parts}
use Rattle.std.proofs.lemmas.List.Elements.{All-contains, All-pop, All-weaker}
use Rattle.chi_events.specs.declared.event.Event.{Event}
use Rattle.chi_events.specs.declared.event.EventKind.{EventKind}
use Rattle.chi_events.specs.declared.event.EventKind.TheVariants.{Request, Data, Reply, Dropped, Refused, Word, Final, Unknown, End}
use Rattle.chi_events.specs.declared.event.Requested.{Requested}
use Rattle.chi_events.specs.declared.outstanding.Open.{Open}
use Rattle.chi_events.specs.Outstanding.{IsEndOf, IsEndOfAbout, IsEvent, OutstandingValue, StaysOrStarts, Tells}
use Rattle.chi_events.specs.RequestEvents.{requested}
use Rattle.chi_trace.specs.Granules.{granule_of}
use Rattle.chi_trace.specs.declared.operation.Operation.{Operation}
use Rattle.chi_watch.specs.Followed.{FollowedValue}
use Rattle.chi_events.specs.declared.event.WordTold.{WordTold}
use Rattle.chi_events.specs.Outstanding.{fault_of as outstanding_fault}
use Rattle.std.specs.Option.{option_or}
use Rattle.chi_watch.specs.Faults.{as_watch_fault}
use Rattle.chi_watch.specs.declared.fault.WatchFault.{WatchFault}
use Rattle.chi_watch.specs.declared.fault.WatchFault.TheVariants as fault
use Rattle.chi_watch.specs.Changes.{BecomesKnown, IsClosed, IsClosedBy, BecomesUnknown, IsUpdated, OthersStay}
use Rattle.chi_watch.specs.Judged.{unknown_at, unknown_since}
use Rattle.chi_watch.specs.WordsTold.{covers}
use Rattle.chi_events.specs.Granules.{granule_of_request}
use Rattle.chi_watch.specs.Watches.{HasTaken, IsGranuleOf, Takes, WatchValue, Watches, granule, fault_of, granule_fault, has_final_word, unknown_by, unknown_in, word_fault}
use Rattle.chi_watch.proofs.Closing.{closed}
use Rattle.chi_watch.proofs.NotedKinds.{Fits, TakesWord, noted}
use Rattle.chi_watch.proofs.UnknownTimes.{unknown_covered, unknown_none}

-- a granule is watched after an operation ended just where it was before, and its word at the end is told just where it was
module _ (requests : List Open) (old new : ℕ → Option FollowedValue) where
  same_some : (op : Option Operation) → IsClosedBy op requests old new → (g : ℕ) → is_some (new g) ≡ is_some (old g)
  same_some None t g = ap is_some (t g)
  same_some (Some op) (horizon, early, earliest, more) g = by_granule (g == granule_of op) refl
    where
      own : (x y : Option FollowedValue) → IsClosed op horizon x y → is_some y ≡ is_some x
      own None y is = ap is_some is
      own (Some x) None is = absurd is
      own (Some x) (Some y) is = refl

      by_granule : (b : Bool) → (g == granule_of op) ≡ b → is_some (new g) ≡ is_some (old g)
      by_granule true same = let is : g ≡ granule_of op = eqb-true g (granule_of op) same in rw is (own (old (granule_of op)) (new (granule_of op)) more.own)
      by_granule false other = ap is_some (more.others g (λ same. absurd (true≢false (sym (eq-eqb g (granule_of op) same) ∙ other))))

  same_final_word : (op : Option Operation) → IsClosedBy op requests old new → (g : ℕ) → has_final_word (new g) ≡ has_final_word (old g)
  same_final_word None t g = ap has_final_word (t g)
  same_final_word (Some op) (horizon, early, earliest, more) g = by_granule (g == granule_of op) refl
    where
      own : (x y : Option FollowedValue) → IsClosed op horizon x y → has_final_word y ≡ has_final_word x
      own None y is = ap has_final_word is
      own (Some x) None is = absurd is
      own (Some x) (Some y) is = ap is_some is.final_word

      by_granule : (b : Bool) → (g == granule_of op) ≡ b → has_final_word (new g) ≡ has_final_word (old g)
      by_granule true same = let is : g ≡ granule_of op = eqb-true g (granule_of op) same in rw is (own (old (granule_of op)) (new (granule_of op)) more.own)
      by_granule false other = ap has_final_word (more.others g (λ same. absurd (true≢false (sym (eq-eqb g (granule_of op) same) ∙ other))))

-- a granule that is watched stays so
module _ (old new : ℕ → Option FollowedValue) where
  others_some : (here : ℕ) (f : FollowedValue) → new here ≡ Some f → OthersStay old new here → (g : ℕ) → IsTrue (is_some (old g)) → IsTrue (is_some (new g))
  others_some here f is others g some = by_granule (g == here) refl
    where
      by_granule : (b : Bool) → (g == here) ≡ b → IsTrue (is_some (new g))
      by_granule true same = let at : g ≡ here = eqb-true g here same in rw at (ap is_some is)
      by_granule false other = ap is_some (others g (λ same. absurd (true≢false (sym (eq-eqb g here same) ∙ other)))) ∙ some

  noted_some : (n time : ℕ) (k : EventKind) → IsUpdated n time k old new → (g : ℕ) → IsTrue (is_some (old g)) → IsTrue (is_some (new g))
  noted_some n time (Request r) t g some = others_some (r.fields.addr / 8) t.followed t.is t.others g some
  noted_some n time (Word w) t g some = by_granule (g == w.granule) refl
    where
      is_watched : (x y : Option FollowedValue) → BecomesKnown n time w x y → IsTrue (is_some y)
      is_watched x None is = absurd is
      is_watched x (Some f) is = refl

      by_granule : (b : Bool) → (g == w.granule) ≡ b → IsTrue (is_some (new g))
      by_granule true same = let at : g ≡ w.granule = eqb-true g w.granule same in rw at (is_watched (old w.granule) (new w.granule) t.known)
      by_granule false other = ap is_some (t.others g (λ same. absurd (true≢false (sym (eq-eqb g w.granule same) ∙ other)))) ∙ some
  noted_some n time (Final w) t g some = others_some w.granule (record t.followed { final_word = Some w.word }) t.is t.others g some
  noted_some n time (Unknown addr len) t g some = by_test (covers g (Unknown addr len)) refl
    where
      is_watched : (x y : Option FollowedValue) → BecomesUnknown n time x y → IsTrue (is_some y)
      is_watched x None is = absurd is
      is_watched x (Some f) is = refl

      by_test : (b : Bool) → covers g (Unknown addr len) ≡ b → IsTrue (is_some (new g))
      by_test true covered = is_watched (old g) (new g) ((t g).unknown covered)
      by_test false other = ap is_some ((t g).same other) ∙ some
  noted_some n time (Data p) t g some = ap is_some (t g) ∙ some
  noted_some n time (Reply c) t g some = ap is_some (t g) ∙ some
  noted_some n time (Dropped id) t g some = ap is_some (t g) ∙ some
  noted_some n time (Refused id reason) t g some = ap is_some (t g) ∙ some
  noted_some n time End t g some = ap is_some (t g) ∙ some

  -- the granule of a request that is taken is watched
  request_some : (n time : ℕ) (k : EventKind) (r : Requested) → requested k ≡ Some r → IsUpdated n time k old new → IsTrue (is_some (new (r.fields.addr / 8)))
  request_some n time (Request q) r is t = subst (λ (o : Option Requested). IfSome o (λ s. IsTrue (is_some (new (s.fields.addr / 8))))) is (ap is_some t.is)
  request_some n time (Word w) r is t = absurd (true≢false (ap is_some (sym is)))
  request_some n time (Final w) r is t = absurd (true≢false (ap is_some (sym is)))
  request_some n time (Unknown addr len) r is t = absurd (true≢false (ap is_some (sym is)))
  request_some n time (Data p) r is t = absurd (true≢false (ap is_some (sym is)))
  request_some n time (Reply c) r is t = absurd (true≢false (ap is_some (sym is)))
  request_some n time (Dropped id) r is t = absurd (true≢false (ap is_some (sym is)))
  request_some n time (Refused id reason) r is t = absurd (true≢false (ap is_some (sym is)))
  request_some n time End r is t = absurd (true≢false (ap is_some (sym is)))

-- what is no fault
pub none_of : {F : Type 0} (b : Bool) (f : F) (rest : Option F) → (if b then Some f else rest) ≡ None → b ≡ false
none_of true f rest is = absurd (true≢false (ap is_some is))
none_of false f rest is = refl

-- a word may be told of the granule
takes_word : (time g : ℕ) (x : Option FollowedValue) (is_open : Bool) → word_fault time x is_open ≡ None → TakesWord time x
takes_word time g None is_open none = tt
takes_word time g (Some f) is_open none = by_test (is_some f.final_word) f.unknown_since none
  where
    by_test : (b : Bool) (since : Option ℕ)
        → (if b || is_none since then Some fault.WordLate else if is_open || nat_le time f.last then Some fault.WordEarly else None) ≡ None → (is_some since ≡ true) × (f.last < time)
    by_test true since so = absurd (true≢false (ap is_some so))
    by_test false None so = absurd (true≢false (ap is_some so))
    by_test false (Some from) so = (refl, leb-false time f.last (or_parts is_open (nat_le time f.last) (none_of (is_open || nat_le time f.last) fault.WordEarly None so)).1)

module _ (events : List Event) (ended : List Operation) (w : WatchValue) (e : Event) (o : OutstandingValue) (op : Option Operation) (mid : ℕ → Option FollowedValue) (final_word : List (ℕ × FollowedValue)) (count : ℕ) where
  abbrev now : WatchValue
  now = record { outstanding = o; granules = final_word; ended = count; shown = w.shown }

  -- one operation more had ended, if one did
  counted : count ≡ min (w.ended + length (option_to_list op)) (2 ^ 64 - 1) → w.ended ≡ min (length ended) (2 ^ 64 - 1) → count ≡ min (length (ended ++ option_to_list op)) (2 ^ 64 - 1)
  counted more before = omega (arith, more, before, length-append ended (option_to_list op))

  -- no operation ends by a word that is told
  fits : IsClosedBy op o.requests (granule w) mid → (k : EventKind) → IfSome op (IsEndOfAbout w.outstanding.requests k) → granule_fault w e.time k ≡ None → Fits e.time k mid
  fits c (Word told) about is = same_takes op about c
    where
      same_takes : (x : Option Operation) → IfSome x (IsEndOfAbout w.outstanding.requests (Word told)) → IsClosedBy x o.requests (granule w) mid → TakesWord e.time (mid told.granule)
      same_takes None ends closed_by =
          subst (TakesWord e.time) (sym (closed_by told.granule))
          (takes_word e.time told.granule (granule w told.granule) (list_any (λ p. granule_of_request p == told.granule) w.outstanding.requests) is)
      same_takes (Some ended_op) ends closed_by = absurd (true≢false (ap is_some (sym ends.is)))
  fits c (Final told) about is =
      same_final_word o.requests (granule w) mid op c told.granule
      ∙ none_of (has_final_word (granule w told.granule)) fault.FinalTwice (if list_any (λ p. granule_of_request p == told.granule) w.outstanding.requests then Some fault.FinalEarly else None) is
  fits c (Request r) about is = tt
  fits c (Unknown addr len) about is = tt
  fits c (Data p) about is = tt
  fits c (Reply r) about is = tt
  fits c (Dropped id) about is = tt
  fits c (Refused id reason) about is = tt
  fits c End about is = tt

  pub taken : granule_fault w e.time e.kind ≡ None → o.time ≡ e.time → w.outstanding.time ≤ e.time → All (StaysOrStarts w.outstanding.requests e) o.requests → IfSome op (IsEndOf w.outstanding.requests e.time) → IfSome op (IsEndOfAbout w.outstanding.requests e.kind)
      → IsClosedBy op o.requests (granule w) mid → IsUpdated w.shown e.time e.kind mid (granule now) → Tells (events ++ e ∷ []) (ended ++ option_to_list op) o
      → count ≡ min (w.ended + length (option_to_list op)) (2 ^ 64 - 1) → Watches events ended w → Watches (events ++ e ∷ []) (ended ++ option_to_list op) now
  taken none at later stay ends about c t tells more is = record {
    tells = tells;
    time = subst (λ n. n < 2 ^ 64) (sym at) last.time;
    each = noted w.shown events e (ended ++ option_to_list op) o at (All-weaker (λ (x : Event). x.time ≤ o.time) (λ (x : Event). x.time ≤ e.time) (λ x by. omega (arith, by, at)) events earlier) last.time mid (granule now)
        (λ g. closed w.shown events ended w.outstanding o e at later stay (granule w) mid op ends is.requested c g (is.each g)) e.kind refl (fits c e.kind about none) t;
    requested = All-weaker (StaysOrStarts w.outstanding.requests e) (λ (p : Open). IsTrue (is_some (granule now (granule_of_request p)))) each o.requests stay;
    count = counted more is.count;
  }
    where
      last : IsEvent e
      last = (All-pop IsEvent (events ++ e ∷ []) events (Some e) refl tells.bounds).1

      earlier : All (λ (x : Event). x.time ≤ o.time) events
      earlier = (All-pop (λ (x : Event). x.time ≤ o.time) (events ++ e ∷ []) events (Some e) refl tells.times).0

      each : (p : Open) → StaysOrStarts w.outstanding.requests e p → IsTrue (is_some (granule now (granule_of_request p)))
      each p (inl (start, (r, is_r, fields))) =
          subst (λ (n : ℕ). IsTrue (is_some (granule now n))) (ap (λ a. a.addr / 8) (sym fields)) (request_some mid (granule now) w.shown e.time e.kind r is_r t)
      each p (inr (old, has, start, fields)) =
          let before : IsTrue (is_some (granule w (granule_of_request old))) = All-contains (λ (q : Open). IsTrue (is_some (granule w (granule_of_request q)))) w.outstanding.requests old is.requested has in
          let middle : IsTrue (is_some (mid (granule_of_request old))) = same_some o.requests (granule w) mid op c (granule_of_request old) ∙ before in
          subst (λ (n : ℕ). IsTrue (is_some (granule now n))) (ap (λ a. a.addr / 8) (sym fields)) (noted_some mid (granule now) w.shown e.time e.kind t (granule_of_request old) middle)

-- a watch that took some events has taken one more
pub taken_more : (e : Event) (ended : Option Operation) (old new : WatchValue) → Takes e ended old new → (events : List Event) → HasTaken events old → HasTaken (events ++ e ∷ []) new
taken_more e ended old new takes events (past, is) = (past ++ option_to_list ended, takes events past is)

-- what it knows of a granule is so of the events that it took
module _ (events : List Event) (w : WatchValue) (g : ℕ) where
  pub since_told : (o : Option FollowedValue) → HasTaken events w → o ≡ granule w g → option_and_then (λ (f : FollowedValue). f.unknown_since) o ≡ unknown_since events g
  since_told o (ended, is) here = by_case o (subst (IsGranuleOf w.shown events ended w.outstanding g) (sym here) (is.each g))
    where
      by_case : (x : Option FollowedValue) → IsGranuleOf w.shown events ended w.outstanding g x → option_and_then (λ (f : FollowedValue). f.unknown_since) x ≡ unknown_since events g
      by_case None untold = sym (unknown_none events g (2 ^ 64 - 1) untold.known)
      by_case (Some f) watched = watched.since

  pub at_told : (time : ℕ) (o : Option FollowedValue) → HasTaken events w → o ≡ granule w g → option_and_then (λ (f : FollowedValue). unknown_by f.gaps f.unknown_since time) o ≡ unknown_at events g time
  at_told time o (ended, is) here = by_case o (subst (IsGranuleOf w.shown events ended w.outstanding g) (sym here) (is.each g))
    where
      by_case : (x : Option FollowedValue) → IsGranuleOf w.shown events ended w.outstanding g x → option_and_then (λ (f : FollowedValue). unknown_by f.gaps f.unknown_since time) x ≡ unknown_at events g time
      by_case None untold = sym (unknown_none events g time untold.known)
      by_case (Some f) watched = watched.gaps time

-- the word of a granule is told again where something that is not told may have written to it
pub covered_again : (events : List Event) (w : WatchValue) (e : Event) (told : WordTold) → HasTaken events w → fault_of w e ≡ None → e.kind ≡ Word told
    → list_any (λ (x : Event). covers told.granule x.kind) events ≡ is_some (unknown_in w told.granule)
covered_again events w e told (ended, has) none is = by_case (granule w told.granule) refl (has.each told.granule) fits
  where
    no_fault : (x y : Option WatchFault) → option_or x y ≡ None → x ≡ None
    no_fault None y so = refl
    no_fault (Some fault) y so = so

    fits : TakesWord e.time (granule w told.granule)
    fits = takes_word e.time told.granule (granule w told.granule) (list_any (λ p. granule_of_request p == told.granule) w.outstanding.requests)
        (subst (λ (k : EventKind). granule_fault w e.time k ≡ None) is (no_fault (granule_fault w e.time e.kind) (option_map as_watch_fault (outstanding_fault w.outstanding e)) none))

    by_case : (x : Option FollowedValue) → granule w told.granule ≡ x → IsGranuleOf w.shown events ended w.outstanding told.granule x → TakesWord e.time x
        → list_any (λ (y : Event). covers told.granule y.kind) events ≡ is_some (unknown_in w told.granule)
    by_case None here untold takes = untold.known ∙ sym (ap (λ (o : Option FollowedValue). is_some (option_and_then (λ (f : FollowedValue). f.unknown_since) o)) here)
    by_case (Some f) here watched takes =
        let some : is_some f.unknown_since ≡ true = takes.0 in
        unknown_covered events told.granule (2 ^ 64 - 1) (ap is_some (sym watched.since) ∙ some)
        ∙ sym (ap (λ (o : Option FollowedValue). is_some (option_and_then (λ (g : FollowedValue). g.unknown_since) o)) here ∙ some)
