-- when the outstanding requests of a granule were taken
use Rattle.std.proofs.Common.{◌≡◌, ℕ, ◌==◌, ◌≤◌, Bool, true, false, cond, not, ◌||◌, nat_lt, List, [], ◌∷◌, ◌++◌, length, map, All, Option, Some, None, Vec, refl, sym, ap, ◌∙◌, arith, eq-eqb}
use Rattle.std.specs.Prelude.{filter}
use Rattle.std.specs.List.{list_any}
use Rattle.std.specs.declared.alloc.Global.{Global}
use Rattle.std.proofs.lemmas.Bool.{lt-ltb, true≢false}
use Rattle.std.proofs.lemmas.List.{map-append}
use Rattle.std.proofs.lemmas.List.Elements.{All-cons, All-head, All-nil, All-tail, filter-append}
use Rattle.chi_events.specs.declared.outstanding.Open.{Open}
use Rattle.chi_events.specs.declared.starts.Start.{Start}
use Rattle.chi_events.specs.Granules.{StartsBy, granule_of_request}
use Rattle.chi_events.specs.Requests.{Replaces, items_of, start_of, starts_among}

module _ (g : ℕ) where
  abbrev is_own : Open → Bool
  is_own o = granule_of_request o == g

  of_both : (first rest : List Open) → starts_among g (first ++ rest) ≡ starts_among g first ++ starts_among g rest
  of_both first rest = ap (map start_of) (filter-append is_own first rest) ∙ map-append start_of (filter is_own first) (filter is_own rest)

  -- a request more
  pub more : (requests : List Open) (o : Open) → starts_among g (requests ++ o ∷ []) ≡ starts_among g requests ++ cond (granule_of_request o == g) (start_of o ∷ []) []
  more requests o = of_both requests (o ∷ []) ∙ ap (λ l. starts_among g requests ++ l) (by_test (is_own o))
    where
      by_test : (t : Bool) → map start_of (cond t (o ∷ []) []) ≡ cond t (start_of o ∷ []) []
      by_test true = refl
      by_test false = refl

  -- a change of one part
  in_part : (first before after : List Open) → starts_among g after ≡ starts_among g before → starts_among g (first ++ after) ≡ starts_among g (first ++ before)
  in_part first before after is = of_both first after ∙ (ap (λ l. starts_among g first ++ l) is ∙ sym (of_both first before))

  -- one of another granule is taken out
  pub other_left : (o : Open) (before after : List Open) → Replaces o [] before after → (granule_of_request o == g) ≡ false → starts_among g after ≡ starts_among g before
  other_left o before after r other =
      ap (starts_among g) r.is ∙ (in_part r.first (o ∷ r.rest) r.rest (ap (λ t. map start_of (cond t (o ∷ filter is_own r.rest) (filter is_own r.rest))) (sym other))
      ∙ ap (starts_among g) (sym r.was))

  -- one is replaced that was taken when it was, and is of the same granule
  pub same_kept : (o now : Open) (before after : List Open) → Replaces o (now ∷ []) before after → granule_of_request now ≡ granule_of_request o → start_of now ≡ start_of o
      → starts_among g after ≡ starts_among g before
  same_kept o now before after r granule start =
      ap (starts_among g) r.is ∙ (in_part r.first (o ∷ r.rest) (now ∷ r.rest) here ∙ ap (starts_among g) (sym r.was))
    where
      by_test : (t : Bool) → map start_of (cond t (now ∷ filter is_own r.rest) (filter is_own r.rest)) ≡ map start_of (cond t (o ∷ filter is_own r.rest) (filter is_own r.rest))
      by_test true = ap (λ s. s ∷ starts_among g r.rest) start
      by_test false = refl

      here : starts_among g (now ∷ r.rest) ≡ starts_among g (o ∷ r.rest)
      here = by_test (is_own now) ∙ ap (λ n. map start_of (cond (n == g) (o ∷ filter is_own r.rest) (filter is_own r.rest))) granule

  -- those of a number are taken out
  pub own_left : (id : ℕ) (requests : List Open) → starts_among g (filter (λ o. not (o.id == id)) requests) ≡ filter (λ start. not (start.id == id)) (starts_among g requests)
  own_left id [] = refl
  own_left id (o ∷ requests) = by_tests (is_own o) (not (o.id == id)) refl refl (own_left id requests)
    where
      left : List Open
      left = filter (λ o. not (o.id == id)) requests

      by_tests : (own stays : Bool) → is_own o ≡ own → not (o.id == id) ≡ stays
          → starts_among g left ≡ filter (λ start. not (start.id == id)) (starts_among g requests)
          → map start_of (filter is_own (cond stays (o ∷ left) left)) ≡ filter (λ start. not (start.id == id)) (map start_of (cond own (o ∷ filter is_own requests) (filter is_own requests)))
      by_tests true true own stays rest = rw (own, stays) (ap (λ l. start_of o ∷ l) rest)
      by_tests true false own stays rest = rw stays rest
      by_tests false true own stays rest = rw own rest
      by_tests false false own stays rest = rest

  -- one is there
  pub any_own : (requests : List Open) → nat_lt 0 (length (starts_among g requests)) ≡ list_any (λ p. granule_of_request p == g) requests
  any_own [] = refl
  any_own (o ∷ requests) = by_test (is_own o) (any_own requests)
    where
      by_test : (t : Bool) → nat_lt 0 (length (starts_among g requests)) ≡ list_any (λ p. granule_of_request p == g) requests
          → nat_lt 0 (length (map start_of (cond t (o ∷ filter is_own requests) (filter is_own requests)))) ≡ (t || list_any (λ p. granule_of_request p == g) requests)
      by_test true rest = lt-ltb 0 (length (start_of o ∷ starts_among g requests)) (omega arith)
      by_test false rest = rest

  abbrev StartsFrom : ℕ → Open → Type 0
  StartsFrom time p = granule_of_request p ≡ g → time ≤ p.start

  -- none was taken before
  pub none_before : (time : ℕ) (requests : List Open) → All (λ (start : Start). time ≤ start.time) (starts_among g requests) → StartsBy requests g time
  none_before time [] all = All-nil (StartsFrom time)
  none_before time (o ∷ requests) all = by_test (is_own o) refl all (none_before time requests)
    where
      by_test : (t : Bool) → is_own o ≡ t → All (λ (start : Start). time ≤ start.time) (map start_of (cond t (o ∷ filter is_own requests) (filter is_own requests)))
          → (All (λ (start : Start). time ≤ start.time) (starts_among g requests) → StartsBy requests g time) → StartsBy (o ∷ requests) g time
      by_test true own all rest =
          All-cons (StartsFrom time) o requests (λ _. All-head (λ (start : Start). time ≤ start.time) (start_of o) (starts_among g requests) all) (rest (All-tail (λ (start : Start). time ≤ start.time) (start_of o) (starts_among g requests) all))
      by_test false other all rest = All-cons (StartsFrom time) o requests (λ here. absurd (true≢false (sym (eq-eqb (granule_of_request o) g here) ∙ other))) (rest all)

module _ (here : Bool) (old new : Option (Vec Start Global)) (before : Vec Start Global) (left : List Start → List Start) (was : here ≡ true → old ≡ Some before) where
  -- what is kept of a granule once some are taken out of it
  pub shortened : (after : Vec Start Global) → new ≡ cond here (Some after) old → after.items ≡ left before.items → items_of new ≡ cond here (left (items_of old)) (items_of old)
  shortened after is taken = by_case here was is
    where
      by_case : (here : Bool) → (here ≡ true → old ≡ Some before) → new ≡ cond here (Some after) old → items_of new ≡ cond here (left (items_of old)) (items_of old)
      by_case true was is = ap items_of is ∙ (taken ∙ ap (λ o. left (items_of o)) (sym (was refl)))
      by_case false was is = ap items_of is

  -- or all
  pub emptied : new ≡ cond here None old → [] ≡ left before.items → items_of new ≡ cond here (left (items_of old)) (items_of old)
  emptied is taken = by_case here was is
    where
      by_case : (here : Bool) → (here ≡ true → old ≡ Some before) → new ≡ cond here None old → items_of new ≡ cond here (left (items_of old)) (items_of old)
      by_case true was is = ap items_of is ∙ (taken ∙ ap (λ o. left (items_of o)) (sym (was refl)))
      by_case false was is = ap items_of is
