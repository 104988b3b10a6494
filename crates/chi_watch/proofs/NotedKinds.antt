-- what a watch knows once an event was noted, by the kind of the event
use Rattle.std.proofs.Common.{◌≡◌, ℕ, ◌/◌, ◌^◌, ◌-◌, ◌<◌, ◌≤◌, ◌==◌, ◌&&◌, ◌||◌, nat_le, nat_lt, Bool, true, false, cond, List, [], ◌∷◌, ◌++◌, All, Option, Some, None, is_some, filter, flat_map, refl, sym, ap, ap₂, subst, ◌∙◌, arith, ne_eqb, eqb-true, eq-eqb, true≢false}
use Rattle.std.specs.Prelude.{IsPermutation, find, option_map}
use Rattle.std.specs.List.{list_any}
use Rattle.std.specs.Option.{option_or, unwrap_or}
use Rattle.chi_events.specs.declared.event.Event.{Event}
use Rattle.chi_events.specs.declared.event.EventKind.{EventKind}
use Rattle.chi_events.specs.declared.event.EventKind.TheVariants.{Request, Data, Reply, Dropped, Refused, Word, Final, Unknown, End}
use Rattle.chi_events.specs.declared.event.WordTold.{WordTold}
use Rattle.chi_events.specs.Outstanding.{OutstandingValue}
use Rattle.chi_judge.specs.Judges.{Keeps}
use Rattle.chi_judge.specs.Until.{cut_before}
use Rattle.chi_judge.proofs.UntilLists.{until-permutation}
use Rattle.chi_trace.specs.AtPlaces.{is_in}
use Rattle.chi_trace.specs.declared.operation.Operation.{Operation}
use Rattle.chi_trace.specs.declared.words.GranuleWord.{GranuleWord}
use Rattle.chi_trace.specs.Words.{find_word, word_or_zero}
use Rattle.chi_watch.specs.Followed.{FollowedValue}
use Rattle.chi_watch.specs.declared.followed.Gap.{Gap}
use Rattle.chi_watch.specs.Changes.{BecomesKnown, BecomesUnknownWhere, BecomesUnknown, GranuleBecomesKnown, IsKnownFrom, IsSameOrUntouched, IsTouched, IsTouchedAndMarked, IsUnknownSince, IsUntouched, IsUpdated}
use Rattle.chi_watch.specs.Judged.{judged_part, tells_word, unknown_at}
use Rattle.chi_events.specs.Granules.{StartsBy}
use Rattle.chi_watch.specs.Watches.{IsGranuleOf, IsUntold, IsWatched, has_final_word, told_of, unknown_by}
use Rattle.chi_watch.specs.WordsTold.{covers, final_in, final_words, granule_word, openings, writes_told}
use Rattle.chi_watch.proofs.FoundWords.{told_other, told_own}
use Rattle.chi_watch.proofs.MoreParts.{own_of, parts_cut}
use Rattle.chi_watch.proofs.MoreWords.{opening_times, opening_told, opening_writes, same_opening, same_times}
use Rattle.chi_watch.proofs.Noted.{IsRetold, begun, is_retold, last_same, no_final, one_final, parts_retold, retold, told_same, untold_retold, watched_retold}
use Rattle.chi_watch.proofs.UnknownTimes.{any_more, cover_tells, unknown_more, unknown_same, unknown_time}
use Rattle.chi_watch.proofs.WordAgain.{known_again}

-- a granule of which a word is told: nothing was told of it before, or something that is not told may have written to it, and its
-- last operation had ended before this time
abbrev pub TakesWord : ℕ → Option FollowedValue → Type 0
TakesWord time None = Unit {0}
TakesWord time (Some f) = (is_some f.unknown_since ≡ true) × (f.last < time)

-- what the granules must be for a word to be told
abbrev pub Fits : ℕ → EventKind → (ℕ → Option FollowedValue) → Type 0
Fits time (Word told) old = TakesWord time (old told.granule)
Fits time (Final told) old = has_final_word (old told.granule) ≡ false
Fits time _ old = Unit {0}

-- it tells no granule's word but the one at the end, and none of something that is not told
abbrev IsOfNone : EventKind → Type 0
IsOfNone k = ((g : ℕ) → covers g k ≡ false) × ((g : ℕ) → tells_word g k ≡ false) × (final_in k ≡ None)

module _ (shown : ℕ) (events : List Event) (e : Event) (ended : List Operation) (o : OutstandingValue) (at : o.time ≡ e.time) (times : All (λ (x : Event). x.time ≤ e.time) events) (bound : e.time < 2 ^ 64) where
  abbrev Is : ℕ → Option FollowedValue → Type 0
  Is g x = IsGranuleOf shown events ended o g x

  abbrev Will : ℕ → Option FollowedValue → Type 0
  Will g x = IsGranuleOf shown (events ++ e ∷ []) ended o g x

  -- an event that tells no word
  module _ (none : IsOfNone e.kind) where
    same : (g : ℕ) → IsRetold events e ended g
    same g = is_retold events e ended g (none.0 g) (none.1 g) (no_final events e none.2 g)

    passes : (g : ℕ) (x : Option FollowedValue) → Is g x → Will g x
    passes g x w = retold events e ended g shown o x (none.0 g) (same g) w

    -- a granule that is watched from its first request on
    requested_own : (g : ℕ) (x : Option FollowedValue) (f : FollowedValue) → IsSameOrUntouched shown 0 x f → Is g x → Will g (Some f)
    requested_own g None f was w =
        let now = untold_retold events e ended g (none.0 g) (same g) w in
        begun shown (events ++ e ∷ []) ended o g 0 f now.known now.none now.times (ap (λ (word : Option ℕ). unwrap_or word 0) now.opening) now.final_word was
    requested_own g (Some old) f was w = subst (λ (y : FollowedValue). Will g (Some y)) (sym was) (passes g (Some old) w)

  module _ (old new : ℕ → Option FollowedValue) (each : (g : ℕ) → Is g (old g)) where
    moved : (g : ℕ) (x : Option FollowedValue) → new g ≡ x → Will g x → Will g (new g)
    moved g x is w = subst (Will g) (sym is) w

    by_other : (here : ℕ) → ((g : ℕ) → (g ≡ here → ⊥) → Will g (new g)) → Will here (new here) → (g : ℕ) → Will g (new g)
    by_other here others own g = by_test (g == here) refl
      where
        by_test : (b : Bool) → (g == here) ≡ b → Will g (new g)
        by_test true so = subst (λ (n : ℕ). Will n (new n)) (sym (eqb-true g here so)) own
        by_test false other = others g (λ so. absurd (true≢false (sym (eq-eqb g here so) ∙ other)))

    touched : IsOfNone e.kind → (here : ℕ) → IsTouched shown old new here 0 → (g : ℕ) → Will g (new g)
    touched none here t = by_other here
        (λ g other. moved g (old g) (t.others g other) (passes none g (old g) (each g)))
        (moved here (Some t.followed) t.is (requested_own none here (old here) t.followed t.was (each here)))

    -- a word that is not the one at the end
    worded : (w : WordTold) → e.kind ≡ Word w → TakesWord e.time (old w.granule) → GranuleBecomesKnown shown e.time w old new → (g : ℕ) → Will g (new g)
    worded w is fits t = by_other w.granule
        (λ g other. moved g (old g) (t.others g other) (retold events e ended g shown o (old g) (ap (covers g) is)
        (is_retold events e ended g (ap (covers g) is) (ap (tells_word g) is ∙ ne_eqb w.granule g (λ so. other (sym so))) (no_final events e (ap final_in is) g)) (each g)))
        (by_case (old w.granule) (new w.granule) fits t.known (each w.granule))
      where
        final_same : find_word (final_words (events ++ e ∷ [])) w.granule ≡ find_word (final_words events) w.granule
        final_same = no_final events e (ap final_in is) w.granule

        first : (before f : FollowedValue) → IsUntouched shown w.word before → IsKnownFrom before.unknown_since e.time w before f → IsUntold events ended w.granule → Will w.granule (Some f)
        first before f u known untold =
            subst (λ (y : FollowedValue). Will w.granule (Some y)) (sym (subst (λ (since : Option ℕ). IsKnownFrom since e.time w before f) u.since known))
            (begun shown (events ++ e ∷ []) ended o w.granule w.word before
            (any_more (λ (x : Event). covers w.granule x.kind) events e false (ap (covers w.granule) is) ∙ or_none (list_any (λ (x : Event). covers w.granule x.kind) events) untold.known)
            (ap (λ (l : List Operation). filter (is_in w.granule) (ended ++ l)) (opening_writes events e w is untold.known) ∙ untold.none) (opening_times events e w is untold.known ∙ untold.times)
            (ap (λ (word : Option ℕ). unwrap_or word 0) (ap (λ (words : List GranuleWord). find_word words w.granule) (opening_told events e w is untold.known) ∙ told_own (openings events) (granule_word w) untold.opening))
            (final_same ∙ untold.final_word) u)
          where
            or_none : (b : Bool) → b ≡ false → (b || false) ≡ false
            or_none true so = so
            or_none false so = refl

        again : (before f : FollowedValue) (since : Option ℕ) → before.unknown_since ≡ since → is_some since ≡ true → before.last < e.time → IsKnownFrom since e.time w before f → IsWatched shown events ended o w.granule before
            → Will w.granule (Some f)
        again before f None unknown some later known watched = absurd (true≢false (sym some))
        again before f (Some from) unknown some later known watched = known_again events e w is bound ended shown o from before f at final_same unknown later known watched

        by_case : (x y : Option FollowedValue) → TakesWord e.time x → BecomesKnown shown e.time w x y → Is w.granule x → Will w.granule y
        by_case x None takes becomes own = absurd becomes
        by_case None (Some f) takes (before, was, known) own = first before f was known own
        by_case (Some x) (Some f) takes (before, was, known) own =
            again before f before.unknown_since refl (ap (λ (y : FollowedValue). is_some y.unknown_since) was ∙ takes.0) (let later : x.last < e.time = takes.1 in subst (λ (y : FollowedValue). y.last < e.time) (sym was) later) known
            (subst (IsWatched shown events ended o w.granule) (sym was) own)

    -- a word after the last request
    module _ (w : WordTold) (is : e.kind ≡ Final w) where
      final_told : (f : FollowedValue) → IsWatched shown events ended o w.granule f → f.final_word ≡ None → Will w.granule (Some (record f { final_word = Some w.word }))
      final_told f base none = record {
        since = base.since ∙ sym (unchanged (2 ^ 64 - 1));
        gaps = λ time. base.gaps time ∙ sym (unchanged time);
        gaps_by = base.gaps_by;
        told = base.told;
        told_is = subst (λ (l : List Operation). IsPermutation l base.told) (sym (parts_retold events e ended w.granule unchanged told)) base.told_is;
        keeps = subst (λ (word : Option ℕ). Keeps (unwrap_or word 0 ∷ []) base.told o.time f.judge) (sym (same_opening events e w.granule (ap (tells_word w.granule) is))) base.keeps;
        started = subst (All (λ (op : Operation). op.start ≤ f.last)) (sym told) base.started;
        last_is = base.last_is ∙ last_same events e ended w.granule (same_times events e w.granule (ap (tells_word w.granule) is));
        last_by = base.last_by;
        latest = base.latest;
        past = base.past;
        horizon = base.horizon;
        shown_is = base.shown_is;
        final_word = sym (ap (λ (words : List GranuleWord). find_word words w.granule) (one_final events e (granule_word w) (ap final_in is)) ∙ told_own (final_words events) (granule_word w) (sym base.final_word ∙ none));
      }
        where
          told : told_of (events ++ e ∷ []) ended w.granule ≡ told_of events ended w.granule
          told = told_same events e ended w.granule (ap (tells_word w.granule) is)

          unchanged : (time : ℕ) → unknown_at (events ++ e ∷ []) w.granule time ≡ unknown_at events w.granule time
          unchanged time = unknown_same events e w.granule time (ap (λ k. tells_word w.granule k && nat_le e.time time) is) (ap (covers w.granule) is)

      final_own : (x : Option FollowedValue) (f : FollowedValue) → IsSameOrUntouched shown 0 x f → has_final_word x ≡ false → Is w.granule x → Will w.granule (Some (record f { final_word = Some w.word }))
      final_own None f u none untold =
          final_told f (begun shown events ended o w.granule 0 f untold.known untold.none untold.times (ap (λ (word : Option ℕ). unwrap_or word 0) untold.opening) untold.final_word u) u.final_word
      final_own (Some before) f so none watched =
          final_told f (subst (IsWatched shown events ended o w.granule) (sym so) watched) (ap (λ (y : FollowedValue). y.final_word) so ∙ no_final_word before.final_word none)
        where
          no_final_word : (x : Option ℕ) → is_some x ≡ false → x ≡ None
          no_final_word None was = refl
          no_final_word (Some v) was = absurd (true≢false was)

      ended_with : has_final_word (old w.granule) ≡ false → IsTouchedAndMarked shown w.granule (λ f. record f { final_word = Some w.word }) old new → (g : ℕ) → Will g (new g)
      ended_with none t = by_other w.granule
          (λ g other. moved g (old g) (t.others g other) (retold events e ended g shown o (old g) (ap (covers g) is)
          (is_retold events e ended g (ap (covers g) is) (ap (tells_word g) is)
          (ap (λ (words : List GranuleWord). find_word words g) (one_final events e (granule_word w) (ap final_in is)) ∙ told_other (final_words events) (granule_word w) g (ne_eqb w.granule g (λ so. other (sym so))))) (each g)))
          (moved w.granule (Some (record t.followed { final_word = Some w.word })) t.is (final_own (old w.granule) t.followed t.was none (each w.granule)))

    -- something that is not told
    module _ (none : final_in e.kind ≡ None) (g : ℕ) (covered : covers g e.kind ≡ true) where
      wordless : tells_word g e.kind ≡ false
      wordless = cover_tells g g e.kind covered

      more : (time : ℕ) → unknown_at (events ++ e ∷ []) g time ≡ option_or (unknown_at events g time) (Some e.time)
      more time =
          unknown_more g time e events (ap (λ b. b && nat_le e.time time) wordless)
          ∙ ap (λ b. option_or (unknown_at events g time) (cond b (Some e.time) None)) covered

      told : told_of (events ++ e ∷ []) ended g ≡ told_of events ended g
      told = told_same events e ended g wordless

      cut_before_it : (before f : FollowedValue) (u : Option ℕ) → before.unknown_since ≡ u → IsUnknownSince u e.time before f → IsWatched shown events ended o g before → Will g (Some f)
      cut_before_it before f None known cut w = record {
        since = cut.since ∙ sym (more (2 ^ 64 - 1) ∙ ap (λ x. option_or x (Some e.time)) (sym w.since ∙ known));
        gaps = λ time.
            ap₂ (λ (gaps : List Gap) (since : Option ℕ). unknown_by gaps since time) cut.gaps cut.since
            ∙ (from_then (find (λ (gap : Gap). nat_lt time gap.until) before.gaps)
            ∙ (ap (λ x. option_or x (Some e.time)) (ap (λ (since : Option ℕ). unknown_by before.gaps since time) (sym known) ∙ w.gaps time) ∙ sym (more time)));
        gaps_by = subst (λ (gaps : List Gap). All (λ (gap : Gap). gap.until ≤ f.last) gaps) (sym cut.gaps)
            (subst (λ (n : ℕ). All (λ (gap : Gap). gap.until ≤ n) before.gaps) (sym cut.last) w.gaps_by);
        told = cut_before e.time w.told;
        told_is = subst (λ (l : List Operation). IsPermutation l (cut_before e.time w.told)) (sym parts)
            (until-permutation (Some e.time) (flat_map (judged_part events) (told_of events ended g)) w.told w.told_is);
        keeps = subst (λ (word : Option ℕ). Keeps (unwrap_or word 0 ∷ []) (cut_before e.time w.told) o.time f.judge) (sym (same_opening events e g wordless))
            (cut.keeps (word_or_zero (openings events) g ∷ []) w.told o.time (omega (arith, w.past, at)) w.keeps);
        started = subst (All (λ (op : Operation). op.start ≤ f.last)) (sym told) (subst (λ (n : ℕ). All (λ (op : Operation). op.start ≤ n) (told_of events ended g)) (sym cut.last) w.started);
        last_is = cut.last ∙ (w.last_is ∙ last_same events e ended g (same_times events e g wordless));
        last_by = omega (arith, cut.last, w.last_by);
        latest = omega (arith, cut.latest, w.latest);
        past = omega (arith, cut.horizon, w.past);
        horizon = subst (StartsBy o.requests g) (sym cut.horizon) w.horizon;
        shown_is = cut.shown ∙ w.shown_is;
        final_word = cut.final_word ∙ (w.final_word ∙ sym (no_final events e none g));
      }
        where
          from_then : (x : Option Gap) → option_or (option_map (λ (gap : Gap). gap.since) x) (Some e.time) ≡ option_or (option_or (option_map (λ (gap : Gap). gap.since) x) None) (Some e.time)
          from_then None = refl
          from_then (Some gap) = refl

          parts : flat_map (judged_part (events ++ e ∷ [])) (told_of (events ++ e ∷ []) ended g) ≡ cut_before e.time (flat_map (judged_part events) (told_of events ended g))
          parts =
              ap (flat_map (judged_part (events ++ e ∷ []))) told
              ∙ parts_cut events e g e.time more (λ time. unknown_time events g time e.time times) (told_of events ended g) (own_of g (ended ++ writes_told events))
      cut_before_it before f (Some earlier) unknown so w =
          subst (λ (x : FollowedValue). Will g (Some x)) (sym so)
          (watched_retold events e ended g shown o before (record {
            at = λ time. more time ∙ some (unknown_at events g time) (option_map (λ (gap : Gap). gap.since) (find (λ (gap : Gap). nat_lt time gap.until) before.gaps)) (sym (w.gaps time) ∙ ap (λ (since : Option ℕ). unknown_by before.gaps since time) unknown);
            opening = same_opening events e g wordless;
            told = told;
            times = same_times events e g wordless;
            final_word = no_final events e none g;
          }) w)
        where
          some : (x y : Option ℕ) → x ≡ option_or y (Some earlier) → option_or x (Some e.time) ≡ x
          some None None is = absurd (true≢false (ap is_some (sym is)))
          some None (Some y) is = absurd (true≢false (ap is_some (sym is)))
          some (Some x) y is = refl

      unknown : (x y : Option FollowedValue) → BecomesUnknown shown e.time x y → Is g x → Will g y
      unknown x None was w = absurd was
      unknown x (Some f) (before, was, since) w = cut_before_it before f before.unknown_since refl since (watched x was w)
        where
          watched : (x : Option FollowedValue) → IsSameOrUntouched shown 0 x before → Is g x → IsWatched shown events ended o g before
          watched None untouched untold = begun shown events ended o g 0 before untold.known untold.none untold.times (ap (λ (word : Option ℕ). unwrap_or word 0) untold.opening) untold.final_word untouched
          watched (Some old) so is = subst (IsWatched shown events ended o g) (sym so) is

    forgotten : final_in e.kind ≡ None → ((g : ℕ) → tells_word g e.kind ≡ false) → ((g : ℕ) → BecomesUnknownWhere shown (covers g e.kind) e.time (old g) (new g)) → (g : ℕ) → Will g (new g)
    forgotten none wordless all g = by_test (covers g e.kind) refl
      where
        by_test : (b : Bool) → covers g e.kind ≡ b → Will g (new g)
        by_test true covered = unknown none g covered (old g) (new g) ((all g).unknown covered) (each g)
        by_test false other = moved g (old g) ((all g).same other) (retold events e ended g shown o (old g) other (is_retold events e ended g other (wordless g) (no_final events e none g)) (each g))

    stays : IsOfNone e.kind → ((g : ℕ) → new g ≡ old g) → (g : ℕ) → Will g (new g)
    stays none so g = moved g (old g) (so g) (passes none g (old g) (each g))

    of_none : (k : EventKind) → e.kind ≡ k → IsOfNone k → IsOfNone e.kind
    of_none k is none = (λ g. ap (covers g) is ∙ none.0 g, λ g. ap (tells_word g) is ∙ none.1 g, ap final_in is ∙ none.2)

    pub noted : (k : EventKind) → e.kind ≡ k → Fits e.time k old → IsUpdated shown e.time k old new → (g : ℕ) → Will g (new g)
    noted (Request r) is fits t = touched (of_none (Request r) is (λ g. refl, λ g. refl, refl)) (r.fields.addr / 8) t
    noted (Word w) is fits t = worded w is fits t
    noted (Final w) is fits t = ended_with w is fits t
    noted (Unknown addr len) is fits t =
        forgotten (ap final_in is) (λ g. ap (tells_word g) is) (λ g. subst (λ (k : EventKind). BecomesUnknownWhere shown (covers g k) e.time (old g) (new g)) (sym is) (t g))
    noted (Data p) is fits t = stays (of_none (Data p) is (λ g. refl, λ g. refl, refl)) t
    noted (Reply c) is fits t = stays (of_none (Reply c) is (λ g. refl, λ g. refl, refl)) t
    noted (Dropped id) is fits t = stays (of_none (Dropped id) is (λ g. refl, λ g. refl, refl)) t
    noted (Refused id reason) is fits t = stays (of_none (Refused id reason) is (λ g. refl, λ g. refl, refl)) t
    noted End is fits t = stays (of_none End is (λ g. refl, λ g. refl, refl)) t
