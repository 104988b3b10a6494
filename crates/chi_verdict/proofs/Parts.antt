-- what stands from one place to another in a grouped list
use Rattle.std.proofs.Common.{◌≡◌, ℕ, zero, suc, ◌+◌, ◌-◌, ◌<◌, ◌≤◌, ◌==◌, ◌&&◌, Bool, true, false, List, ◌++◌, All, drop, get_or, length, take, refl, sym, ap, subst, ◌∙◌, arith, eqb-true, eq-eqb, true≢false}
use Rattle.std.proofs.lemmas.List.{drop-drop, get_or-drop, get_or-take, length-drop, length-take, map-append, take-append-drop}
use Rattle.std.proofs.lemmas.List.Elements.{All-drop, All-map, All-take}
use Rattle.std.proofs.lemmas.List.Sorted.{IsNonDecreasingBy-drop, IsNonDecreasingBy-take}
use Rattle.chi_history.specs.History.{one_if}
use Rattle.chi_trace.specs.declared.operation.Operation.{Operation}
use Rattle.chi_trace.specs.Explains.{at, is_place, times_in}
use Rattle.chi_trace.specs.Granules.{granule_of, is_of}
use Rattle.chi_trace.proofs.Moved.{times_in-append}
use Rattle.chi_trace.proofs.Places.{of_member}
use Rattle.chi_verdict.specs.declared.grouping.Placed.{Placed}
use Rattle.chi_verdict.specs.Groups.{AreByEnd, ArePlaced, IsGrouped, places_of}
use Rattle.chi_verdict.proofs.Filling.{Tells}

-- a place that stands in a list is of the granule that is told of it there
of_granules : (ops : List Operation) (P : ℕ → Type 0) (run : List Placed) (i : ℕ) → ArePlaced ops run → All (λ p. P p.granule) run
    → 0 < times_in (places_of run) i → P (granule_of (at ops i))
of_granules ops P run i placed all some =
    of_member (λ j. P (granule_of (at ops j))) (places_of run) i
    (All-map (λ j. P (granule_of (at ops j))) (λ p. p.place) run (λ k d below. subst P (sym (placed k d below).0) (all k d below))) some

-- of a list that has each place once, the middle has those of a granule where neither end has any of them
only_own : (ops : List Operation) (below own above : List Placed) (g i : ℕ) → times_in (places_of (below ++ (own ++ above))) i ≡ one_if (is_place ops i)
    → (0 < times_in (places_of below) i → granule_of (at ops i) < g) → (0 < times_in (places_of own) i → granule_of (at ops i) ≡ g)
    → (0 < times_in (places_of above) i → g < granule_of (at ops i)) → times_in (places_of own) i ≡ one_if (is_of ops g i)
only_own ops below own above g i once early same late = by_test (is_place ops i) (granule_of (at ops i) == g) refl (sym whole ∙ once)
  where
    b : ℕ
    b = times_in (places_of below) i

    o : ℕ
    o = times_in (places_of own) i

    a : ℕ
    a = times_in (places_of above) i

    whole : times_in (places_of (below ++ (own ++ above))) i ≡ b + (o + a)
    whole =
        ap (λ x. times_in x i) (map-append (λ (p : Placed). p.place) below (own ++ above))
        ∙ times_in-append (places_of below) (places_of (own ++ above)) i
        ∙ ap (λ x. b + times_in x i) (map-append (λ (p : Placed). p.place) own above)
        ∙ ap (λ n. b + n) (times_in-append (places_of own) (places_of above) i)

    nowhere : (n : ℕ) → (0 < n → ⊥) → n ≡ 0
    nowhere zero never = refl
    nowhere (suc n) never = absurd (never (omega arith))

    by_test : (c d : Bool) → (granule_of (at ops i) == g) ≡ d → b + (o + a) ≡ one_if c → o ≡ one_if (c && d)
    by_test false d is total = omega (arith, total)
    by_test true true is total =
        let here : granule_of (at ops i) ≡ g = eqb-true (granule_of (at ops i)) g is in
        let none_below : b ≡ 0 = nowhere b (λ some. omega (arith, here, early some)) in
        let none_above : a ≡ 0 = nowhere a (λ some. omega (arith, here, late some)) in
        omega (arith, total, none_below, none_above)
    by_test true false is total = nowhere o (λ some. true≢false (sym (eq-eqb (granule_of (at ops i)) g (same some)) ∙ is))

-- neighbours that stay neighbours in a part of the list stand by their ends there too
moved : (run part : List Placed) (k j : ℕ) (d : Placed) → AreByEnd run → j + 1 < length run → get_or part k d ≡ get_or run j d
    → get_or part (k + 1) d ≡ get_or run (j + 1) d → (get_or part k d).granule ≡ (get_or part (k + 1) d).granule
    → (get_or part k d).end ≤ (get_or part (k + 1) d).end
moved run part k j d by_end below here next same =
    let granules = sym (ap (λ (p : Placed). p.granule) here) ∙ same ∙ ap (λ (p : Placed). p.granule) next in
    omega (arith, by_end j d below granules, ap (λ (p : Placed). p.end) here, ap (λ (p : Placed). p.end) next)

AreByEnd-take : (n : ℕ) (run : List Placed) → AreByEnd run → AreByEnd (take n run)
AreByEnd-take n run by_end k d below same =
    let size = length-take n run in
    moved run (take n run) k k d by_end (omega (arith, size, below)) (get_or-take n run k d (omega (arith, size, below)))
    (get_or-take n run (k + 1) d (omega (arith, size, below))) same

AreByEnd-drop : (n : ℕ) (run : List Placed) → AreByEnd run → AreByEnd (drop n run)
AreByEnd-drop n run by_end k d below same =
    let step : n + (k + 1) ≡ n + k + 1 = omega arith in
    moved run (drop n run) k (n + k) d by_end (omega (arith, length-drop n run, below)) (get_or-drop n run k d)
    (get_or-drop n run (k + 1) d ∙ ap (λ i. get_or run i d) step) same

-- what stands from one place to another in a grouped list is grouped, where it has all of a granule
pub group_of : (ops : List Operation) (places : List Placed) (from to g : ℕ) → IsGrouped ops (is_place ops) places → from ≤ to → to ≤ length places
    → All (λ p. p.granule < g) (take from places) → All (λ p. p.granule ≡ g) (take (to - from) (drop from places)) → All (λ p. g < p.granule) (drop to places)
    → IsGrouped ops (is_of ops g) (take (to - from) (drop from places))
group_of ops places from to g is ordered within early same late = record {
  placed = placed;
  each = λ i. only_own ops (take from places) own (drop to places) g i (ap (λ run. times_in (places_of run) i) parts ∙ is.each i)
      (of_granules ops (λ h. h < g) (take from places) i (All-take (Tells ops) from places is.placed) early)
      (of_granules ops (λ h. h ≡ g) own i placed same)
      (of_granules ops (λ h. g < h) (drop to places) i (All-drop (Tells ops) to places is.placed) late);
  granules = IsNonDecreasingBy-take (λ p. p.granule) n (drop from places) (IsNonDecreasingBy-drop (λ p. p.granule) from places is.granules);
  ends = AreByEnd-take n (drop from places) (AreByEnd-drop from places is.ends);
}
  where
    n : ℕ
    n = to - from

    own : List Placed
    own = take n (drop from places)

    placed : ArePlaced ops own
    placed = All-take (Tells ops) n (drop from places) (All-drop (Tells ops) from places is.placed)

    rest : take n (drop from places) ++ drop to places ≡ drop from places
    rest =
        let there : from + n ≡ to = omega (arith, ordered) in
        ap (λ m. take n (drop from places) ++ drop m places) (sym there)
        ∙ ap (λ x. take n (drop from places) ++ x) (sym (drop-drop n from places)) ∙ take-append-drop n (drop from places)

    parts : take from places ++ (take n (drop from places) ++ drop to places) ≡ places
    parts = ap (λ x. take from places ++ x) rest ∙ take-append-drop from places
