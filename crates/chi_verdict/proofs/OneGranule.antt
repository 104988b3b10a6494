-- the places of one granule's operations
use Rattle.std.proofs.Common.{◌≡◌, ℕ, ◌+◌, ◌<◌, ◌==◌, true, List, All, get_or, length, sym, ap, subst, ◌∙◌, arith, eqb-true, ltb-true}
use Rattle.std.specs.List.Sorted.{IsNonDecreasingBy}
use Rattle.std.proofs.lemmas.Bool.{and_parts}
use Rattle.std.proofs.lemmas.List.{get_or-map, get_or_default, length-map}
use Rattle.std.proofs.lemmas.List.Sorted.{IsNonDecreasingBy-from_all_adjacent}
use Rattle.chi_history.specs.History.{one_if}
use Rattle.chi_trace.specs.declared.operation.Operation.{Operation}
use Rattle.chi_trace.specs.AtPlaces.{at_places}
use Rattle.chi_trace.specs.Explains.{IsOperation, IsTrace, at, is_place, nothing, times_in}
use Rattle.chi_trace.specs.Granules.{granule_of, is_of}
use Rattle.chi_trace.proofs.Orders.{observed_at}
use Rattle.chi_trace.proofs.Places.{passes}
use Rattle.chi_search.specs.Searchable.{AreByEnd, AreSorted, AreWithin}
use Rattle.chi_verdict.specs.declared.grouping.Placed.{Placed}
use Rattle.chi_verdict.specs.Groups.{AreInside, ArePlaced, IsGrouped, places_of}

-- the list has each operation of the granule once
abbrev pub HasEach : List Operation → ℕ → List Placed → Type 0
HasEach ops g run = (i : ℕ) → times_in (places_of run) i ≡ one_if (is_of ops g i)

-- each place is one of the granule
pub own_places : (ops : List Operation) (g : ℕ) (run : List Placed) → HasEach ops g run → All (λ p. is_of ops g p.place ≡ true) run
own_places ops g run each k d below =
    let size : length (places_of run) ≡ length run = length-map run (λ p. p.place) in
    let own = passes (is_of ops g) (places_of run) (λ i. omega (arith, each i)) k 0 (omega (arith, size, below)) in
    ap (is_of ops g) (sym (get_or-map (λ p. p.place) run k d 0 below)) ∙ own

-- so each is inside the trace
pub inside : (ops : List Operation) (g : ℕ) (run : List Placed) → HasEach ops g run → AreInside ops run
inside ops g run each k d below =
    let place = (get_or run k d).place in
    ltb-true place (length ops) (and_parts (is_place ops place) (granule_of (at ops place) == g) (own_places ops g run each k d below)).0

-- and that granule is told of each
pub one_granule : (ops : List Operation) (g : ℕ) (run : List Placed) → ArePlaced ops run → HasEach ops g run → All (λ p. p.granule ≡ g) run
one_granule ops g run placed each k d below =
    let place = (get_or run k d).place in
    let own = and_parts (is_place ops place) (granule_of (at ops place) == g) (own_places ops g run each k d below) in
    sym (placed k d below).0 ∙ eqb-true (granule_of (at ops place)) g own.1

-- so they stand by their ends
pub by_ends : (ops : List Operation) (g : ℕ) (run : List Placed) → IsGrouped ops (is_of ops g) run → IsNonDecreasingBy (λ (p : Placed). p.end) run
by_ends ops g run grouped =
    let own = one_granule ops g run grouped.placed grouped.each in
    IsNonDecreasingBy-from_all_adjacent (λ (p : Placed). p.end) run
    (λ k d below. grouped.ends k d below (own k d (omega arith) ∙ sym (own (k + 1) d below)))

-- a place told of nothing
abbrev none : Placed
none = record { granule = 0; end = 0; place = 0 }

-- the operation at an index of those that were chosen
chosen_at : (ops : List Operation) (run : List Placed) (k : ℕ) → k < length run → at (at_places ops (places_of run)) k ≡ at ops (get_or run k none).place
chosen_at ops run k below =
    let size : length (places_of run) ≡ length run = length-map run (λ p. p.place) in
    get_or-map (at ops) (places_of run) k 0 nothing (omega (arith, size, below)) ∙ ap (at ops) (get_or-map (λ (p : Placed). p.place) run k none 0 below)

-- as many were chosen as there are places
pub length_chosen : (ops : List Operation) (run : List Placed) → length (at_places ops (places_of run)) ≡ length run
length_chosen ops run = length-map (places_of run) (at ops) ∙ length-map run (λ p. p.place)

-- each of them is an operation of a trace
chosen_observed : (ops : List Operation) (g : ℕ) (run : List Placed) → IsTrace ops → HasEach ops g run → All IsOperation (at_places ops (places_of run))
chosen_observed ops g run is each k d below =
    let index : k < length run = omega (arith, length_chosen ops run, below) in
    let place = (get_or run k none).place in
    let own = and_parts (is_place ops place) (granule_of (at ops place) == g) (own_places ops g run each k none index) in
    subst IsOperation (sym (get_or_default (at_places ops (places_of run)) k d nothing below ∙ chosen_at ops run k index)) (observed_at ops place is own.0)

-- the chosen operations stand in the order of their ends, and none ends before it starts
pub sorted : (ops : List Operation) (g : ℕ) (run : List Placed) → IsTrace ops → IsGrouped ops (is_of ops g) run → AreSorted (at_places ops (places_of run))
sorted ops g run is grouped = (by_end, λ k d below. (chosen_observed ops g run is grouped.each k d below).lasting)
  where
    end_at : (k : ℕ) → k < length run → (at (at_places ops (places_of run)) k).end ≡ (get_or run k none).end
    end_at k below = ap (λ (op : Operation). op.end) (chosen_at ops run k below) ∙ (grouped.placed k none below).1

    by_end : AreByEnd (at_places ops (places_of run))
    by_end i j order below =
        let last : j < length run = omega (arith, length_chosen ops run, below) in
        let first : i < length run = omega (arith, order, last) in
        omega (arith, by_ends ops g run grouped i j none order last, end_at i first, end_at j last)

-- and all lie within 2^52 bytes
pub within : (ops : List Operation) (g : ℕ) (run : List Placed) → IsTrace ops → IsGrouped ops (is_of ops g) run → AreWithin (at_places ops (places_of run))
within ops g run is grouped i below = (chosen_observed ops g run is grouped.each i nothing below).within
