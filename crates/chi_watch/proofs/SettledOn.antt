-- what a watch knows once a granule that is quiet was settled
use Rattle.std.proofs.Common.{◌≡◌, ℕ, ◌≤◌, ◌==◌, ◌⊎◌, Bool, true, false, List, ◌∷◌, [], All, Option, Some, None, IsTrue, is_some, refl, sym, ap₂, subst, ◌∙◌, arith, inl, inr, eqb-true, eq-eqb, true≢false}
use Rattle.std.specs.List.{list_any}
use Rattle.std.proofs.lemmas.List.Elements.{All-weaker}
use Rattle.chi_events.specs.declared.event.Event.{Event}
use Rattle.chi_events.specs.declared.outstanding.Open.{Open}
use Rattle.chi_events.specs.Granules.{StartsBy, granule_of_request}
use Rattle.chi_events.specs.Outstanding.{OutstandingValue}
use Rattle.chi_trace.specs.Words.{word_or_zero}
use Rattle.chi_trace.specs.declared.operation.Operation.{Operation}
use Rattle.chi_watch.specs.Changes.{GranuleIsSettled, IsSettledAt, IsSettledWhere}
use Rattle.chi_watch.specs.Followed.{FollowedValue}
use Rattle.chi_watch.specs.Watches.{IsGranuleOf, IsWatched, WatchValue, Watches, granule, told_of, unknown_by}
use Rattle.chi_watch.specs.WordsTold.{openings}
use Rattle.chi_watch.specs.declared.followed.Gap.{Gap}
use Rattle.chi_watch.proofs.Found.{is_quiet}

module _ (n : ℕ) (events : List Event) (ended : List Operation) (o : OutstandingValue) (g : ℕ) (quiet : list_any (λ p. granule_of_request p == g) o.requests ≡ false) where
  -- no request of the granule starts before any time
  starts : (horizon : ℕ) → StartsBy o.requests g horizon
  starts horizon = All-weaker (λ (p : Open). granule_of_request p ≡ g → ⊥) (λ (p : Open). granule_of_request p ≡ g → horizon ≤ p.start) (λ p none is. absurd (none is)) o.requests (is_quiet o.requests g quiet)

  watched_settled : (old new : FollowedValue) → IsSettledAt o.time old new → IsWatched n events ended o g old → IsWatched n events ended o g new
  watched_settled old new s w = record {
    since = s.since ∙ w.since;
    gaps = λ time. ap₂ (λ (gaps : List Gap) (since : Option ℕ). unknown_by gaps since time) s.gaps s.since ∙ w.gaps time;
    gaps_by = subst (λ (gaps : List Gap). All (λ (gap : Gap). gap.until ≤ new.last) gaps) (sym s.gaps) (subst (λ (last : ℕ). All (λ (gap : Gap). gap.until ≤ last) old.gaps) (sym s.last) w.gaps_by);
    told = w.told;
    told_is = w.told_is;
    keeps = s.keeps (word_or_zero (openings events) g ∷ []) w.told o.time (omega arith) w.keeps;
    started = subst (λ (last : ℕ). All (λ (op : Operation). op.start ≤ last) (told_of events ended g)) (sym s.last) w.started;
    last_is = s.last ∙ w.last_is;
    last_by = omega (arith, s.last, w.last_by);
    latest = omega (arith, s.latest, w.latest);
    past = past s.horizon_is;
    horizon = starts new.judge.horizon;
    shown_is = s.shown ∙ w.shown_is;
    final_word = s.final_word ∙ w.final_word;
  }
    where
      past : (new.judge.horizon ≤ o.time) ⊎ (new.judge.horizon ≡ old.judge.horizon) → new.judge.horizon ≤ o.time
      past (inl below) = below
      past (inr same) = omega (arith, same, w.past)

  granule_settled : (x y : Option FollowedValue) → IsSettledWhere o.time x y → IsGranuleOf n events ended o g x → IsGranuleOf n events ended o g y
  granule_settled None y is w = subst (IsGranuleOf n events ended o g) (sym is) w
  granule_settled (Some old) None is w = absurd is
  granule_settled (Some old) (Some new) is w = watched_settled old new is w

-- a granule that was watched still is
some_settled : (time : ℕ) (x y : Option FollowedValue) → IsSettledWhere time x y → IsTrue (is_some x) → IsTrue (is_some y)
some_settled time None y is some = absurd (true≢false (sym some))
some_settled time (Some old) None is some = absurd is
some_settled time (Some old) (Some new) is some = refl

pub watches_settled : (w : WatchValue) (g : ℕ) (entries : List (ℕ × FollowedValue)) → list_any (λ p. granule_of_request p == g) w.outstanding.requests ≡ false
    → GranuleIsSettled g w.outstanding.time (granule w) (granule (record w { granules = entries })) → (events : List Event) (ended : List Operation) → Watches events ended w
    → Watches events ended (record w { granules = entries })
watches_settled w g entries quiet settled events ended is = record {
  tells = is.tells;
  time = is.time;
  each = each;
  requested = All-weaker (λ (p : Open). IsTrue (is_some (granule w (granule_of_request p)))) (λ (p : Open). IsTrue (is_some (new (granule_of_request p)))) (λ p some. still (granule_of_request p) some) w.outstanding.requests is.requested;
  count = is.count;
}
  where
    new : ℕ → Option FollowedValue
    new = granule (record w { granules = entries })

    each : (h : ℕ) → IsGranuleOf w.shown events ended w.outstanding h (new h)
    each h = by_test (h == g) refl
      where
        by_test : (b : Bool) → (h == g) ≡ b → IsGranuleOf w.shown events ended w.outstanding h (new h)
        by_test true same = subst (λ (k : ℕ). IsGranuleOf w.shown events ended w.outstanding k (new k)) (sym (eqb-true h g same))
            (granule_settled w.shown events ended w.outstanding g quiet (granule w g) (new g) settled.own (is.each g))
        by_test false other = subst (IsGranuleOf w.shown events ended w.outstanding h) (sym (settled.others h (λ same. absurd (true≢false (sym (eq-eqb h g same) ∙ other))))) (is.each h)

    still : (h : ℕ) → IsTrue (is_some (granule w h)) → IsTrue (is_some (new h))
    still h some = by_test (h == g) refl
      where
        by_test : (b : Bool) → (h == g) ≡ b → IsTrue (is_some (new h))
        by_test true same = subst (λ (k : ℕ). IsTrue (is_some (new k))) (sym (eqb-true h g same))
            (some_settled w.outstanding.time (granule w g) (new g) settled.own (subst (λ (k : ℕ). IsTrue (is_some (granule w k))) (eqb-true h g same) some))
        by_test false other = subst (λ (x : Option FollowedValue). IsTrue (is_some x)) (sym (settled.others h (λ same. absurd (true≢false (sym (eq-eqb h g same) ∙ other))))) some
