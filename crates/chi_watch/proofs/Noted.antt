-- what a watch knows once an event was noted
use Rattle.std.proofs.Common.{◌≡◌, ℕ, ◌^◌, ◌-◌, ◌≤◌, ◌&&◌, ◌||◌, nat_le, Bool, true, false, List, [], ◌∷◌, ◌++◌, All, Option, Some, None, append-nil, filter, filter_map, flat_map, length, map, refl, sym, ap, ap₂, subst, ◌∙◌, arith}
use Rattle.std.specs.Prelude.{IsPermutation, max}
use Rattle.std.specs.List.{list_any}
use Rattle.std.specs.Option.{unwrap_or}
use Rattle.std.proofs.lemmas.List.Elements.{All-nil, All-weaker, filter-append, filter_map-append}
use Rattle.std.proofs.lemmas.List.Sorted.{IsPermutation-refl}
use Rattle.chi_events.specs.declared.event.Event.{Event}
use Rattle.chi_events.specs.declared.outstanding.Open.{Open}
use Rattle.chi_events.specs.Outstanding.{OutstandingValue}
use Rattle.chi_judge.specs.Judges.{Keeps}
use Rattle.chi_judge.proofs.Keeping.{keeps_later}
use Rattle.chi_trace.specs.AtPlaces.{is_in}
use Rattle.chi_trace.specs.declared.operation.Operation.{Operation}
use Rattle.chi_trace.specs.declared.words.GranuleWord.{GranuleWord}
use Rattle.chi_trace.specs.Words.{find_word, word_or_zero}
use Rattle.chi_watch.specs.Followed.{FollowedValue}
use Rattle.chi_watch.specs.declared.followed.Gap.{Gap}
use Rattle.chi_watch.specs.Changes.{IsUntouched}
use Rattle.chi_watch.specs.Judged.{judged_part, tells_word, unknown_at}
use Rattle.chi_events.specs.Granules.{StartsBy, granule_of_request}
use Rattle.chi_watch.specs.Watches.{IsGranuleOf, IsUntold, IsWatched, last_time, latest_of, told_of, unknown_by}
use Rattle.chi_watch.specs.WordsTold.{covers, final_in, final_words, openings, times_told, writes_told}
use Rattle.chi_watch.proofs.MoreParts.{own_of, parts_same}
use Rattle.chi_watch.proofs.MoreWords.{same_opening, same_times, same_writes}
use Rattle.chi_watch.proofs.UnknownTimes.{any_more, unknown_none, unknown_same}

-- no request starts before time 0
pub from_start : (o : OutstandingValue) (g horizon : ℕ) → horizon ≡ 0 → StartsBy o.requests g horizon
from_start o g horizon none = All-weaker (λ (p : Open). Unit {0}) (λ (p : Open). granule_of_request p ≡ g → horizon ≤ p.start) (λ p all is. omega (arith, none)) o.requests (λ i d below. tt)

-- where there are none of two kinds there are none of the first
none_of_both : (xs ys : List Operation) → xs ++ ys ≡ [] → xs ≡ []
none_of_both [] ys none = refl
none_of_both (x ∷ xs) ys none = absurd (omega (arith, ap length none))

-- a granule that is watched from now on
pub begun : (n : ℕ) (events : List Event) (ended : List Operation) (o : OutstandingValue) (g word : ℕ) (f : FollowedValue) → list_any (λ (e : Event). covers g e.kind) events ≡ false → told_of events ended g ≡ [] → times_told events g ≡ []
    → word_or_zero (openings events) g ≡ word → find_word (final_words events) g ≡ None → IsUntouched n word f → IsWatched n events ended o g f
begun n events ended o g word f known none times opening final_word u = record {
  since = u.since ∙ sym (unknown_none events g (2 ^ 64 - 1) known);
  gaps = λ time. ap₂ (λ (gaps : List Gap) (since : Option ℕ). unknown_by gaps since time) u.gaps u.since ∙ sym (unknown_none events g time known);
  gaps_by = subst (All (λ (gap : Gap). gap.until ≤ f.last)) (sym u.gaps) (All-nil (λ (gap : Gap). gap.until ≤ f.last));
  told = [];
  told_is = subst (λ (ops : List Operation). IsPermutation (flat_map (judged_part events) ops) []) (sym none) (IsPermutation-refl []);
  keeps = subst (λ (w : ℕ). Keeps (w ∷ []) [] o.time f.judge) (sym opening) (keeps_later (word ∷ []) [] 0 f.judge u.keeps o.time (omega arith));
  started = subst (All (λ (op : Operation). op.start ≤ f.last)) (sym none) (All-nil (λ (op : Operation). op.start ≤ f.last));
  last_is = u.last ∙ sym (ap₂ (λ (ends : List ℕ) (later : List ℕ). max (latest_of ends) (latest_of later)) (ap (map (λ (op : Operation). op.end)) (none_of_both (filter (is_in g) ended) (filter (is_in g) (writes_told events)) (sym (filter-append (is_in g) ended (writes_told events)) ∙ none))) times);
  last_by = omega (arith, u.last);
  latest = omega (arith, u.latest);
  past = omega (arith, u.horizon);
  horizon = from_start o g f.judge.horizon u.horizon;
  shown_is = u.shown_is;
  final_word = u.final_word ∙ sym final_word;
}

one_none : {X Y : Type 0} (h : X → Option Y) (x : X) → h x ≡ None → filter_map h (x ∷ []) ≡ []
one_none h x is = rw is refl

one_some : {X Y : Type 0} (h : X → Option Y) (x : X) (y : Y) → h x ≡ Some y → filter_map h (x ∷ []) ≡ y ∷ []
one_some h x y is = rw is refl

module _ (events : List Event) (e : Event) where
  pub finals_more : final_words (events ++ e ∷ []) ≡ final_words events ++ final_words (e ∷ [])
  finals_more = filter_map-append (λ (x : Event). final_in x.kind) events (e ∷ [])

  -- an event that tells no word at the end, and one that does
  pub no_final : final_in e.kind ≡ None → (g : ℕ) → find_word (final_words (events ++ e ∷ [])) g ≡ find_word (final_words events) g
  no_final none g = ap (λ (words : List GranuleWord). find_word words g) (finals_more ∙ (ap (λ words. final_words events ++ words) (one_none (λ (x : Event). final_in x.kind) e none) ∙ append-nil (final_words events)))

  pub one_final : (w : GranuleWord) → final_in e.kind ≡ Some w → final_words (events ++ e ∷ []) ≡ final_words events ++ w ∷ []
  one_final w some = finals_more ∙ ap (λ words. final_words events ++ words) (one_some (λ (x : Event). final_in x.kind) e w some)

  module _ (ended : List Operation) (g : ℕ) where
    -- where it does not tell the granule's word, the operations that are told of it stay the same
    pub told_same : tells_word g e.kind ≡ false → told_of (events ++ e ∷ []) ended g ≡ told_of events ended g
    told_same other =
        filter-append (is_in g) ended (writes_told (events ++ e ∷ []))
        ∙ (ap (λ l. filter (is_in g) ended ++ l) (same_writes events e g other) ∙ sym (filter-append (is_in g) ended (writes_told events)))

    -- nothing of the granule changes by the event
    pub record IsRetold : Type 0 where
      pub at : (time : ℕ) → unknown_at (events ++ e ∷ []) g time ≡ unknown_at events g time
      pub opening : find_word (openings (events ++ e ∷ [])) g ≡ find_word (openings events) g
      pub told : told_of (events ++ e ∷ []) ended g ≡ told_of events ended g
      pub times : times_told (events ++ e ∷ []) g ≡ times_told events g
      pub final_word : find_word (final_words (events ++ e ∷ [])) g ≡ find_word (final_words events) g

    -- where it tells neither its word nor that something else may have written to it
    pub is_retold : covers g e.kind ≡ false → tells_word g e.kind ≡ false → find_word (final_words (events ++ e ∷ [])) g ≡ find_word (final_words events) g → IsRetold
    is_retold uncovered other final_word = record {
      at = λ time. unknown_same events e g time (ap (λ b. b && nat_le e.time time) other) uncovered;
      opening = same_opening events e g other;
      told = told_same other;
      times = same_times events e g other;
      final_word = final_word;
    }

    pub parts_retold : ((time : ℕ) → unknown_at (events ++ e ∷ []) g time ≡ unknown_at events g time) → told_of (events ++ e ∷ []) ended g ≡ told_of events ended g
        → flat_map (judged_part (events ++ e ∷ [])) (told_of (events ++ e ∷ []) ended g) ≡ flat_map (judged_part events) (told_of events ended g)
    parts_retold at told =
        ap (flat_map (judged_part (events ++ e ∷ []))) told
        ∙ parts_same events e g (told_of events ended g) (own_of g (ended ++ writes_told events)) (λ i d below. at _)

    pub last_same : times_told (events ++ e ∷ []) g ≡ times_told events g → last_time events ended g ≡ last_time (events ++ e ∷ []) ended g
    last_same same = ap (λ (later : List ℕ). max (latest_of (map (λ (op : Operation). op.end) (filter (is_in g) ended))) (latest_of later)) (sym same)

    pub watched_retold : (n : ℕ) (o : OutstandingValue) (f : FollowedValue) → IsRetold → IsWatched n events ended o g f → IsWatched n (events ++ e ∷ []) ended o g f
    watched_retold n o f same w = record {
      since = w.since ∙ sym (same.at (2 ^ 64 - 1));
      gaps = λ time. w.gaps time ∙ sym (same.at time);
      gaps_by = w.gaps_by;
      told = w.told;
      told_is = subst (λ (l : List Operation). IsPermutation l w.told) (sym (parts_retold same.at same.told)) w.told_is;
      keeps = subst (λ (word : Option ℕ). Keeps (unwrap_or word 0 ∷ []) w.told o.time f.judge) (sym same.opening) w.keeps;
      started = subst (All (λ (op : Operation). op.start ≤ f.last)) (sym same.told) w.started;
      last_is = w.last_is ∙ last_same same.times;
      last_by = w.last_by;
      latest = w.latest;
      past = w.past;
      horizon = w.horizon;
      shown_is = w.shown_is;
      final_word = w.final_word ∙ sym same.final_word;
    }

    pub untold_retold : covers g e.kind ≡ false → IsRetold → IsUntold events ended g → IsUntold (events ++ e ∷ []) ended g
    untold_retold uncovered same w = record {
      known = any_more (λ (x : Event). covers g x.kind) events e false uncovered ∙ or_none (list_any (λ (x : Event). covers g x.kind) events) w.known;
      none = same.told ∙ w.none;
      times = same.times ∙ w.times;
      opening = same.opening ∙ w.opening;
      final_word = same.final_word ∙ w.final_word;
    }
      where
        or_none : (b : Bool) → b ≡ false → (b || false) ≡ false
        or_none true so = so
        or_none false so = refl

    -- where the event tells nothing of the granule
    pub retold : (n : ℕ) (o : OutstandingValue) (x : Option FollowedValue) → covers g e.kind ≡ false → IsRetold → IsGranuleOf n events ended o g x → IsGranuleOf n (events ++ e ∷ []) ended o g x
    retold n o None uncovered same w = untold_retold uncovered same w
    retold n o (Some f) uncovered same w = watched_retold n o f same w
