-- what a watch knows once an operation has ended
use Rattle.std.proofs.Common.{◌≡◌, ℕ, ◌/◌, ◌≤◌, ◌==◌, ◌⊎◌, Bool, true, false, List, [], ◌∷◌, ◌++◌, All, Option, Some, None, IfSome, IsTrue, is_some, filter, flat_map, map, cond, inl, inr, refl, sym, ap, ap₂, subst, ◌∙◌, arith, append-nil, eqb-true, eq-eqb, true≢false}
use Rattle.std.specs.Prelude.{IsPermutation, max, option_to_list}
use Rattle.std.proofs.lemmas.List.Elements.{All-cons, All-contains, All-nil, All-weaker, filter-append}
use Rattle.chi_events.specs.declared.event.Event.{Event}
use Rattle.chi_events.specs.declared.outstanding.Open.{Open}
use Rattle.chi_events.specs.Outstanding.{IsEndOf, OutstandingValue, StaysOrStarts}
use Rattle.chi_judge.specs.Judges.{Keeps}
use Rattle.chi_judge.specs.Until.{until}
use Rattle.chi_judge.proofs.Keeping.{keeps_later}
use Rattle.chi_trace.specs.AtPlaces.{is_in}
use Rattle.chi_trace.specs.Granules.{granule_of}
use Rattle.chi_trace.specs.declared.operation.Operation.{Operation}
use Rattle.chi_trace.specs.Words.{word_or_zero}
use Rattle.chi_watch.specs.Followed.{FollowedValue}
use Rattle.chi_watch.specs.Changes.{CanEnd, IsClosed, IsClosedBy, IsTold}
use Rattle.chi_watch.specs.declared.followed.Gap.{Gap}
use Rattle.chi_watch.specs.Judged.{judged_part, unknown_at}
use Rattle.chi_watch.specs.WordsTold.{openings, times_told, writes_told}
use Rattle.chi_events.specs.Granules.{StartsBy, granule_of_request}
use Rattle.chi_watch.specs.Watches.{IsGranuleOf, IsWatched, latest_of, told_of, unknown_by}
use Rattle.std.proofs.lemmas.List.{map-append}
use Rattle.chi_watch.proofs.LastTimes.{latest_first}
use Rattle.chi_watch.proofs.MoreTold.{all_started, parts_moved}

-- the operations of a granule, with one more of another
other_more : (g : ℕ) (ended : List Operation) (op : Operation) → (granule_of op == g) ≡ false → filter (is_in g) (ended ++ op ∷ []) ≡ filter (is_in g) ended
other_more g ended op other =
    filter-append (is_in g) ended (op ∷ []) ∙ (ap (λ (b : Bool). filter (is_in g) ended ++ cond b (op ∷ []) []) other ∙ append-nil (filter (is_in g) ended))

-- when they ended, and with one more of it
ends_more : (g : ℕ) (ended : List Operation) (op : Operation) → granule_of op ≡ g → map (λ o. o.end) (filter (is_in g) (ended ++ op ∷ [])) ≡ map (λ o. o.end) (filter (is_in g) ended) ++ op.end ∷ []
ends_more g ended op is =
    ap (map (λ (o : Operation). o.end)) (filter-append (is_in g) ended (op ∷ []) ∙ ap (λ (b : Bool). filter (is_in g) ended ++ cond b (op ∷ []) []) (eq-eqb (granule_of op) g is))
    ∙ map-append (λ (o : Operation). o.end) (filter (is_in g) ended) (op ∷ [])

-- and with one more of it
own_one : (g : ℕ) (op : Operation) → granule_of op ≡ g → filter (is_in g) (op ∷ []) ≡ op ∷ []
own_one g op is = ap (λ (b : Bool). cond b (op ∷ []) []) (eq-eqb (granule_of op) g is)

module _ (n : ℕ) (events : List Event) (ended : List Operation) (before after : OutstandingValue) (e : Event) (now : after.time ≡ e.time) (later : before.time ≤ e.time)
    (stay : All (StaysOrStarts before.requests e) after.requests) where
  -- a horizon stays one, since a request that is taken now starts no earlier
  starts_on : (g horizon : ℕ) → horizon ≤ before.time → StartsBy before.requests g horizon → StartsBy after.requests g horizon
  starts_on g horizon past starts = All-weaker (StaysOrStarts before.requests e) (λ p. granule_of_request p ≡ g → horizon ≤ p.start) each after.requests stay
    where
      each : (p : Open) → StaysOrStarts before.requests e p → granule_of_request p ≡ g → horizon ≤ p.start
      each p (inl taken) is = omega (arith, taken.0, past, later)
      each p (inr (old, has, start, fields)) is =
          let starts_by : horizon ≤ old.start = All-contains (λ (q : Open). granule_of_request q ≡ g → horizon ≤ q.start) before.requests old starts has (ap (λ a. a.addr / 8) (sym fields) ∙ is) in
          omega (arith, start, starts_by)

  same_told : (g : ℕ) (more : List Operation) → filter (is_in g) more ≡ filter (is_in g) ended → told_of events more g ≡ told_of events ended g
  same_told g more same =
      filter-append (is_in g) more (writes_told events) ∙ (ap (λ l. l ++ filter (is_in g) (writes_told events)) same ∙ sym (filter-append (is_in g) ended (writes_told events)))

  -- where no operation of the granule ended
  watched_on : (g : ℕ) (f : FollowedValue) (more : List Operation) → filter (is_in g) more ≡ filter (is_in g) ended → IsWatched n events ended before g f → IsWatched n events more after g f
  watched_on g f more same w = record {
    since = w.since;
    gaps = w.gaps;
    gaps_by = w.gaps_by;
    told = w.told;
    told_is = subst (λ (ops : List Operation). IsPermutation (flat_map (judged_part events) ops) w.told) (sym told) w.told_is;
    keeps = keeps_later (word_or_zero (openings events) g ∷ []) w.told before.time f.judge w.keeps after.time (omega (arith, later, now));
    started = subst (All (λ (op : Operation). op.start ≤ f.last)) (sym told) w.started;
    last_is = w.last_is ∙ ap (λ (ops : List Operation). max (latest_of (map (λ (op : Operation). op.end) ops)) (latest_of (times_told events g))) (sym same);
    last_by = omega (arith, w.last_by, later, now);
    latest = omega (arith, w.latest, later, now);
    past = omega (arith, w.past, later, now);
    horizon = starts_on g f.judge.horizon w.past w.horizon;
    shown_is = w.shown_is;
    final_word = w.final_word;
  }
    where
      told : told_of events more g ≡ told_of events ended g
      told = same_told g more same

  stays_on : (g : ℕ) (x : Option FollowedValue) (more : List Operation) → filter (is_in g) more ≡ filter (is_in g) ended → IsGranuleOf n events ended before g x → IsGranuleOf n events more after g x
  stays_on g None more same w = record { known = w.known; none = same_told g more same ∙ w.none; times = w.times; opening = w.opening; final_word = w.final_word }
  stays_on g (Some f) more same w = watched_on g f more same w

  -- where an operation of the granule ended
  module _ (op : Operation) (ends : IsEndOf before.requests e.time op) (horizon : ℕ) (early : horizon ≤ op.start) (g : ℕ) (is : granule_of op ≡ g) (earliest : StartsBy after.requests g horizon) where
    can_end : (f : FollowedValue) → IsWatched n events ended before g f → CanEnd horizon f.judge op
    can_end f w =
        let own : granule_of_request ends.request ≡ g = ap (λ n. n / 8) (sym ends.at) ∙ is in
        let starts : f.judge.horizon ≤ ends.request.start = All-contains (λ (q : Open). granule_of_request q ≡ g → f.judge.horizon ≤ q.start) before.requests ends.request w.horizon ends.is own in
        record {
          past = omega (arith, starts, ends.start);
          starts = early;
          ends = omega (arith, w.latest, later, ends.end);
          lasting = ends.lasting;
          within = ends.within;
        }

    told_on : (old new : FollowedValue) → IsTold op horizon old new → IsWatched n events ended before g old → IsWatched n events (ended ++ op ∷ []) after g new
    told_on old new t w = record {
      since = t.since ∙ w.since;
      gaps = λ time. ap₂ (λ (gaps : List Gap) (since : Option ℕ). unknown_by gaps since time) t.gaps t.since ∙ w.gaps time;
      gaps_by = subst (λ (gaps : List Gap). All (λ (gap : Gap). gap.until ≤ new.last) gaps) (sym t.gaps)
          (All-weaker (λ (gap : Gap). gap.until ≤ old.last) (λ (gap : Gap). gap.until ≤ new.last) (λ gap by. omega (arith, by, w.last_by, later, ends.end, t.last)) old.gaps w.gaps_by);
      told = w.told ++ part;
      told_is = subst (λ (l : List Operation). IsPermutation (flat_map (judged_part events) (told_of events (ended ++ op ∷ []) g)) (w.told ++ l)) one_part (parts_moved events g ended (op ∷ []) w.told w.told_is);
      keeps = keeps_later words (w.told ++ part) op.end new.judge kept after.time (omega (arith, ends.end, now));
      started = all_started events g ended (op ∷ []) old.last new.last (omega (arith, w.last_by, later, ends.end, t.last))
          (subst (All (λ (o : Operation). o.start ≤ new.last)) (sym (own_one g op is))
          (All-cons (λ (o : Operation). o.start ≤ new.last) op [] (omega (arith, ends.lasting, t.last)) (All-nil (λ (o : Operation). o.start ≤ new.last)))) w.started;
      last_is = t.last ∙ sym (ap (λ (times : List ℕ). max (latest_of times) (latest_of (times_told events g))) (ends_more g ended op is)
          ∙ latest_first (map (λ (o : Operation). o.end) (filter (is_in g) ended)) (times_told events g) op.end (omega (arith, w.last_is, w.last_by, later, ends.end)));
      last_by = omega (arith, t.last, ends.end, now);
      latest = omega (arith, t.heard.latest, ends.end, now);
      past = past old.judge.horizon new.judge.horizon w.past t.heard.horizon_is;
      horizon = starts old.judge.horizon new.judge.horizon w.past w.horizon t.heard.horizon_is;
      shown_is = t.heard.shown ∙ w.shown_is;
      final_word = t.final_word ∙ w.final_word;
    }
      where
        past : (from to : ℕ) → from ≤ before.time → (to ≤ horizon) ⊎ (to ≡ from) → to ≤ after.time
        past from to was (inl below) = omega (arith, below, early, ends.lasting, ends.end, now)
        past from to was (inr same) = omega (arith, same, was, later, now)

        starts : (from to : ℕ) → from ≤ before.time → StartsBy before.requests g from → (to ≤ horizon) ⊎ (to ≡ from) → StartsBy after.requests g to
        starts from to was by (inl below) = All-weaker (λ (p : Open). granule_of_request p ≡ g → horizon ≤ p.start) (λ (p : Open). granule_of_request p ≡ g → to ≤ p.start)
            (λ p so own. let here : horizon ≤ p.start = so own in omega (arith, below, here)) after.requests earliest
        starts from to was by (inr same) = subst (StartsBy after.requests g) (sym same) (starts_on g from was by)

        words : List ℕ
        words = word_or_zero (openings events) g ∷ []

        part : List Operation
        part = until (unknown_by old.gaps old.unknown_since op.start) (op ∷ [])

        one_part : flat_map (judged_part events) (filter (is_in g) (op ∷ [])) ≡ part
        one_part =
            ap (flat_map (judged_part events)) (own_one g op is)
            ∙ (append-nil (judged_part events op)
            ∙ (ap (λ (h : ℕ). until (unknown_at events h op.start) (op ∷ [])) is ∙ ap (λ (u : Option ℕ). until u (op ∷ [])) (sym (w.gaps op.start))))

        kept : Keeps words (w.told ++ part) op.end new.judge
        kept = t.heard.keeps words w.told (keeps_later words w.told before.time old.judge w.keeps op.end (omega (arith, later, ends.end)))

    closed_on : (x y : Option FollowedValue) → IsTrue (is_some x) → IsClosed op horizon x y → IsGranuleOf n events ended before g x → IsGranuleOf n events (ended ++ op ∷ []) after g y
    closed_on None y some t w = absurd (true≢false (sym some))
    closed_on (Some old) None some t w = absurd t
    closed_on (Some old) (Some new) some t w = told_on old new (t.told (can_end old w)) w

  -- what is known of each granule
  pub closed : (old new : ℕ → Option FollowedValue) (op : Option Operation) → IfSome op (IsEndOf before.requests e.time) → All (λ p. IsTrue (is_some (old (granule_of_request p)))) before.requests
      → IsClosedBy op after.requests old new → (g : ℕ) → IsGranuleOf n events ended before g (old g) → IsGranuleOf n events (ended ++ option_to_list op) after g (new g)
  closed old new None ends requested t g w =
      subst (IsGranuleOf n events (ended ++ []) after g) (sym (t g)) (stays_on g (old g) (ended ++ []) (ap (filter (is_in g)) (append-nil ended)) w)
  closed old new (Some op) ends requested (horizon, early, earliest, more) g w = by_granule (granule_of op == g) refl
    where
      by_granule : (b : Bool) → (granule_of op == g) ≡ b → IsGranuleOf n events (ended ++ op ∷ []) after g (new g)
      by_granule true same =
          let is : granule_of op ≡ g = eqb-true (granule_of op) g same in
          let at : granule_of_request ends.request ≡ g = ap (λ n. n / 8) (sym ends.at) ∙ is in
          let some : IsTrue (is_some (old g)) = subst (λ n. IsTrue (is_some (old n))) at (All-contains (λ (p : Open). IsTrue (is_some (old (granule_of_request p)))) before.requests ends.request requested ends.is) in
          closed_on op ends horizon early g is (rw (← is) earliest) (old g) (new g) some (rw (← is) more.own) w
      by_granule false other =
          subst (IsGranuleOf n events (ended ++ op ∷ []) after g) (sym (more.others g (λ same. absurd (true≢false (sym (eq-eqb (granule_of op) g (sym same)) ∙ other)))))
          (stays_on g (old g) (ended ++ op ∷ []) (other_more g ended op other) w)
