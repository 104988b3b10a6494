-- what a watch knows of a granule once its word was told again
use Rattle.std.proofs.Common.{◌≡◌, ℕ, ◌^◌, ◌-◌, ◌≤◌, ◌<◌, ◌&&◌, nat_le, nat_lt, Bool, true, false, cond, List, [], ◌∷◌, ◌++◌, All, Option, Some, None, IfSome, is_some, filter, flat_map, map, refl, sym, ap, ap₂, subst, ◌∙◌, append_assoc, arith, eq-eqb, le-leb}
use Rattle.std.specs.Prelude.{IsPermutation, find, max, option_map, option_to_list}
use Rattle.std.specs.List.{list_any}
use Rattle.std.specs.Option.{option_or, unwrap_or}
use Rattle.std.proofs.lemmas.Bool.{le-ltb, lt-leb, ltb-false, ltb-true}
use Rattle.std.proofs.lemmas.List.Elements.{All-append, All-cons, All-head, All-nil, All-tail, All-weaker, filter-append}
use Rattle.std.proofs.lemmas.List.Concat.{flat_map-append}
use Rattle.std.proofs.lemmas.List.Folds.{find-append}
use Rattle.std.proofs.lemmas.List.Sorted.{IsPermutation-append, IsPermutation-refl}
use Rattle.chi_events.specs.declared.event.Event.{Event}
use Rattle.chi_events.specs.declared.event.EventKind.TheVariants.{Word}
use Rattle.chi_events.specs.declared.event.WordTold.{WordTold}
use Rattle.chi_events.specs.Outstanding.{OutstandingValue}
use Rattle.chi_judge.specs.Judges.{Keeps}
use Rattle.chi_judge.specs.Until.{until}
use Rattle.chi_trace.specs.AtPlaces.{is_in}
use Rattle.chi_trace.specs.Granules.{granule_of}
use Rattle.chi_trace.specs.declared.operation.Operation.{Operation}
use Rattle.chi_trace.specs.Words.{find_word}
use Rattle.chi_watch.specs.Followed.{FollowedValue}
use Rattle.chi_watch.specs.declared.followed.Gap.{Gap}
use Rattle.chi_watch.specs.Changes.{IsToldWord}
use Rattle.chi_watch.specs.Judged.{is_word_by, judged_part, tells_word, unknown_at, unknown_since}
use Rattle.chi_events.specs.Granules.{StartsBy}
use Rattle.chi_watch.specs.Watches.{IsWatched, latest_of, told_of, unknown_by}
use Rattle.chi_watch.proofs.LastTimes.{latest_second}
use Rattle.chi_watch.specs.WordsTold.{covers, final_words, openings, times_told, write_at, writes_told}
use Rattle.chi_watch.proofs.MoreParts.{own_of, parts_same}
use Rattle.chi_watch.proofs.MoreWords.{later_openings, later_times, later_writes}
use Rattle.chi_watch.proofs.UnknownTimes.{unknown_covered, unknown_same, unknown_word}
use Rattle.chi_watch.proofs.Writes.{IsWriteOf, written}

-- where no gap ends later none is found
find_none : {X : Type 0} (p : X → Bool) (xs : List X) → All (λ x. p x ≡ false) xs → find p xs ≡ None
find_none p [] all = refl
find_none p (x ∷ xs) all = rw (All-head (λ y. p y ≡ false) x xs all) (find_none p xs (All-tail (λ y. p y ≡ false) x xs all))

module _ (events : List Event) (e : Event) (w : WordTold) (is : e.kind ≡ Word w) (bound : e.time < 2 ^ 64) where
  abbrev g : ℕ
  g = w.granule

  uncovered : covers g e.kind ≡ false
  uncovered = ap (covers g) is

  tells : (time : ℕ) (b : Bool) → nat_le e.time time ≡ b → is_word_by g time e ≡ b
  tells time b so = ap₂ (λ (c d : Bool). c && d) (ap (tells_word g) is ∙ eq-eqb g g refl) so

  -- from its time on all is known
  known_then : (time : ℕ) → e.time ≤ time → unknown_at (events ++ e ∷ []) g time ≡ None
  known_then time by = unknown_word g time e events (tells time true (le-leb e.time time by)) uncovered

  -- and before it is as it was
  same_before : (time : ℕ) → time < e.time → unknown_at (events ++ e ∷ []) g time ≡ unknown_at events g time
  same_before time before = unknown_same events e g time (tells time false (lt-leb e.time time before)) uncovered

  covered : (from : ℕ) → unknown_since events g ≡ Some from → list_any (λ (x : Event). covers g x.kind) events ≡ true
  covered from some = unknown_covered events g (2 ^ 64 - 1) (ap is_some some)

  -- the gap that ends then
  gaps_more : (gaps : List Gap) (from last time : ℕ) → All (λ gap. gap.until ≤ last) gaps → last < e.time → unknown_by gaps (Some from) time ≡ unknown_at events g time
      → unknown_by (gaps ++ record { since = from; until = e.time } ∷ []) None time ≡ unknown_at (events ++ e ∷ []) g time
  gaps_more gaps from last time by later was = by_time (nat_lt time e.time) refl
    where
      gap : Gap
      gap = record { since = from; until = e.time }

      ends_later : Gap → Bool
      ends_later x = nat_lt time x.until

      found : (b : Bool) → nat_lt time e.time ≡ b → find ends_later (gaps ++ gap ∷ []) ≡ option_or (find ends_later gaps) (cond b (Some gap) None)
      found b so = find-append ends_later gaps (gap ∷ []) ∙ ap (λ c. option_or (find ends_later gaps) (cond c (Some gap) None)) so

      within : (x : Option Gap) → option_or (option_map (λ (y : Gap). y.since) (option_or x (Some gap))) None ≡ option_or (option_map (λ (y : Gap). y.since) x) (Some from)
      within None = refl
      within (Some x) = refl

      by_time : (b : Bool) → nat_lt time e.time ≡ b → unknown_by (gaps ++ gap ∷ []) None time ≡ unknown_at (events ++ e ∷ []) g time
      by_time true so =
          ap (λ x. option_or (option_map (λ (y : Gap). y.since) x) None) (found true so)
          ∙ (within (find ends_later gaps) ∙ (was ∙ sym (same_before time (ltb-true time e.time so))))
      by_time false so =
          let past : e.time ≤ time = ltb-false time e.time so in
          ap (λ x. option_or (option_map (λ (y : Gap). y.since) x) None)
          (found false so ∙ ap (λ x. option_or x None) (find_none ends_later gaps (All-weaker (λ (x : Gap). x.until ≤ last) (λ (x : Gap). ends_later x ≡ false) (λ x early. le-ltb time x.until (omega (arith, early, later, past))) gaps by)))
          ∙ sym (known_then time past)

  -- the operations that are told, with the write
  module _ (ended : List Operation) where
    abbrev writes : List Operation
    writes = option_to_list (write_at e.time w)

    told_more : (from : ℕ) → unknown_since events g ≡ Some from → told_of (events ++ e ∷ []) ended g ≡ told_of events ended g ++ writes
    told_more from some =
        ap (λ l. filter (is_in g) (ended ++ l)) (later_writes events e w is (covered from some))
        ∙ (ap (filter (is_in g)) (sym (append_assoc ended (writes_told events) writes))
        ∙ (filter-append (is_in g) (ended ++ writes_told events) writes ∙ ap (λ l. told_of events ended g ++ l) (own_write (write_at e.time w) (written e.time w))))
      where
        own_write : (o : Option Operation) → IfSome o (IsWriteOf e.time g) → filter (is_in g) (option_to_list o) ≡ option_to_list o
        own_write None so = refl
        own_write (Some op) so = rw (eq-eqb (granule_of op) g so.at) refl

    -- the write is judged whole, and the others as before
    write_part : (o : Option Operation) → IfSome o (IsWriteOf e.time g) → flat_map (judged_part (events ++ e ∷ [])) (option_to_list o) ≡ option_to_list o
    write_part None so = refl
    write_part (Some op) so =
        ap (λ l. l ++ []) (ap (λ (h : ℕ). until (unknown_at (events ++ e ∷ []) h op.start) (op ∷ [])) so.at
        ∙ ap (λ (u : Option ℕ). until u (op ∷ [])) (known_then op.start (omega (arith, so.start))))

    parts_more : (from last : ℕ) → unknown_since events g ≡ Some from → All (λ op. op.start ≤ last) (told_of events ended g) → last < e.time
        → flat_map (judged_part (events ++ e ∷ [])) (told_of (events ++ e ∷ []) ended g) ≡ flat_map (judged_part events) (told_of events ended g) ++ writes
    parts_more from last some started later =
        ap (flat_map (judged_part (events ++ e ∷ []))) (told_more from some)
        ∙ (flat_map-append (judged_part (events ++ e ∷ [])) (told_of events ended g) writes
        ∙ ap₂ (λ (a b : List Operation). a ++ b)
        (parts_same events e g (told_of events ended g) (own_of g (ended ++ writes_told events))
        (All-weaker (λ (op : Operation). op.start ≤ last) (λ (op : Operation). unknown_at (events ++ e ∷ []) g op.start ≡ unknown_at events g op.start)
        (λ op early. same_before op.start (omega (arith, early, later))) (told_of events ended g) started))
        (write_part (write_at e.time w) (written e.time w)))

    pub known_again : (n : ℕ) (o : OutstandingValue) (from : ℕ) (old new : FollowedValue) → o.time ≡ e.time → find_word (final_words (events ++ e ∷ [])) g ≡ find_word (final_words events) g
        → old.unknown_since ≡ Some from → old.last < e.time → IsToldWord from e.time w old new → IsWatched n events ended o g old → IsWatched n (events ++ e ∷ []) ended o g new
    known_again n o from old new at final_word unknown later t was = record {
      since = t.since ∙ sym (known_then (2 ^ 64 - 1) (omega (arith, bound)));
      gaps = λ time.
          ap₂ (λ (gaps : List Gap) (since : Option ℕ). unknown_by gaps since time) t.gaps t.since
          ∙ gaps_more old.gaps from old.last time was.gaps_by later (ap (λ (since : Option ℕ). unknown_by old.gaps since time) (sym unknown) ∙ was.gaps time);
      gaps_by = subst (All (λ (gap : Gap). gap.until ≤ new.last)) (sym t.gaps)
          (All-append (λ (gap : Gap). gap.until ≤ new.last) old.gaps (record { since = from; until = e.time } ∷ [])
          (All-weaker (λ (gap : Gap). gap.until ≤ old.last) (λ (gap : Gap). gap.until ≤ new.last) (λ gap early. omega (arith, early, later, t.last)) old.gaps was.gaps_by)
          (All-cons (λ (gap : Gap). gap.until ≤ new.last) (record { since = from; until = e.time }) [] (omega (arith, t.last)) (All-nil (λ (gap : Gap). gap.until ≤ new.last))));
      told = was.told ++ writes;
      told_is = subst (λ (l : List Operation). IsPermutation l (was.told ++ writes)) (sym (parts_more from old.last some was.started later))
          (IsPermutation-append (flat_map (judged_part events) (told_of events ended g)) was.told writes writes was.told_is (IsPermutation-refl writes));
      keeps = subst (λ (word : Option ℕ). Keeps (unwrap_or word 0 ∷ []) (was.told ++ writes) o.time new.judge)
          (sym (ap (λ l. find_word l g) (later_openings events e w is (covered from some))))
          (subst (λ (n : ℕ). Keeps (unwrap_or (find_word (openings events) g) 0 ∷ []) (was.told ++ writes) n new.judge) (sym at)
          (t.written.keeps (unwrap_or (find_word (openings events) g) 0 ∷ []) was.told o.time (omega (arith, at)) (omega (arith, was.latest, at)) (omega (arith, was.past, at)) was.keeps));
      started = subst (All (λ (op : Operation). op.start ≤ new.last)) (sym (told_more from some))
          (All-append (λ (op : Operation). op.start ≤ new.last) (told_of events ended g) writes
          (All-weaker (λ (op : Operation). op.start ≤ old.last) (λ (op : Operation). op.start ≤ new.last) (λ op early. omega (arith, early, later, t.last)) (told_of events ended g) was.started)
          (write_started (write_at e.time w) (written e.time w)));
      last_is = t.last ∙ sym (ap (λ (later : List ℕ). max (latest_of (map (λ (op : Operation). op.end) (filter (is_in g) ended))) (latest_of later)) (later_times events e w is (covered from some))
          ∙ latest_second (map (λ (op : Operation). op.end) (filter (is_in g) ended)) (times_told events g) e.time (omega (arith, was.last_is, later)));
      last_by = omega (arith, t.last, at);
      latest = let by = t.written.latest (omega (arith, was.latest, at)) (omega (arith, was.past, at)) in omega (arith, by, at);
      past = omega (arith, t.written.horizon, was.past);
      horizon = subst (StartsBy o.requests g) (sym t.written.horizon) was.horizon;
      shown_is = t.written.shown ∙ was.shown_is;
      final_word = t.final_word ∙ (was.final_word ∙ sym final_word);
    }
      where
        some : unknown_since events g ≡ Some from
        some = sym was.since ∙ unknown

        write_started : (x : Option Operation) → IfSome x (IsWriteOf e.time g) → All (λ (op : Operation). op.start ≤ new.last) (option_to_list x)
        write_started None so = All-nil (λ (op : Operation). op.start ≤ new.last)
        write_started (Some op) so = All-cons (λ (op : Operation). op.start ≤ new.last) op [] (omega (arith, so.start, t.last)) (All-nil (λ (op : Operation). op.start ≤ new.last))
