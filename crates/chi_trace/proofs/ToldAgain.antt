-- a granule's operations told by themselves, in any order
use Rattle.std.proofs.Common.{◌≡◌, ℕ, zero, suc, ◌+◌, ◌<◌, ◌==◌, ◌&&◌, Bool, true, false, cond, List, [], ◌∷◌, filter, get_or, length, map, set, sum_by, slice_index, swap, IsPermutation, Option, ◌↔◌, refl, sym, ap, subst, ◌∙◌, arith, ne_eqb}
use Rattle.std.proofs.lemmas.List.{get_or-map, length-map, map-set}
use Rattle.std.proofs.lemmas.List.Edits.{swap_is}
use Rattle.std.proofs.lemmas.List.Sorted.{IsPermutation-keeps, IsPermutation-refl, IsPermutation-swap, IsPermutation-trans, sum_by-IsPermutation}
use Rattle.std.proofs.lemmas.List.Sums.{sum_by-cons}
use Rattle.chi_history.specs.History.{one_if}
use Rattle.chi_trace.specs.declared.operation.Operation.{Operation}
use Rattle.chi_trace.specs.AtPlaces.{at_places, is_in}
use Rattle.chi_trace.specs.Explains.{at, is_place, times_in}
use Rattle.chi_trace.specs.Granules.{ExplainsGranule, Finishes, granule_of, is_of}
use Rattle.chi_trace.proofs.AtPlaces.{chosen_moves, told_back, told_there}
use Rattle.chi_trace.proofs.Cuts.{first_place, next_place, no_place}
use Rattle.chi_trace.proofs.Moved.{at_moved, times_moved}

-- the places of a granule's operations, in the order of the trace
unfoldable places_in : List Operation → ℕ → List ℕ
places_in [] g = []
places_in (op ∷ trace) g = cond (is_in g op) (0 ∷ map suc (places_in trace g)) (map suc (places_in trace g))

-- behind one more operation each place is the next
chosen_behind : (op : Operation) (trace : List Operation) (places : List ℕ) → at_places (op ∷ trace) (map suc places) ≡ at_places trace places
chosen_behind op trace [] = refl
chosen_behind op trace (i ∷ places) = ap (λ l. at trace i ∷ l) (chosen_behind op trace places)

-- at these places stand the granule's operations
chosen_in : (trace : List Operation) (g : ℕ) → at_places trace (places_in trace g) ≡ filter (is_in g) trace
unfolding places_in
chosen_in [] g = refl
chosen_in (op ∷ trace) g = by_test (is_in g op) (chosen_behind op trace (places_in trace g) ∙ chosen_in trace g)
  where
    by_test : (b : Bool) → at_places (op ∷ trace) (map suc (places_in trace g)) ≡ filter (is_in g) trace
        → at_places (op ∷ trace) (cond b (0 ∷ map suc (places_in trace g)) (map suc (places_in trace g)))
        ≡ cond b (op ∷ filter (is_in g) trace) (filter (is_in g) trace)
    by_test true rest = ap (λ l. op ∷ l) rest
    by_test false rest = rest

-- the first place is the next of none
first_behind : (places : List ℕ) → times_in (map suc places) 0 ≡ 0
unfolding times_in
first_behind [] = refl
first_behind (i ∷ places) =
    let other : one_if (suc i == 0) ≡ 0 = ap one_if (ne_eqb (suc i) 0 (λ same. absurd (omega (arith, same)))) in
    omega (arith, other, first_behind places)

-- and each other place is as often there as the one before it was
next_behind : (places : List ℕ) (i : ℕ) → times_in (map suc places) (suc i) ≡ times_in places i
next_behind places i = times_moved suc i (suc i) places refl (λ n d under same. omega (arith, same))

-- each of the granule's places stands there once, and no other
each_in : (trace : List Operation) (g i : ℕ) → times_in (places_in trace g) i ≡ one_if (is_of trace g i)
unfolding places_in times_in
each_in [] g i = ap (λ b. one_if (b && (granule_of (at [] i) == g))) (sym (no_place i))
each_in (op ∷ trace) g zero =
    by_test (is_in g op) (first_behind (places_in trace g)) ∙ ap (λ b. one_if (b && is_in g op)) (sym (first_place op trace))
  where
    by_test : (b : Bool) → times_in (map suc (places_in trace g)) 0 ≡ 0
        → times_in (cond b (0 ∷ map suc (places_in trace g)) (map suc (places_in trace g))) 0 ≡ one_if b
    by_test true none = omega (arith, none)
    by_test false none = none
each_in (op ∷ trace) g (suc i) =
    by_test (is_in g op) (next_behind (places_in trace g) i ∙ each_in trace g i)
    ∙ ap (λ b. one_if (b && (granule_of (at trace i) == g))) (sym (next_place op trace i))
  where
    by_test : (b : Bool) → times_in (map suc (places_in trace g)) (suc i) ≡ one_if (is_of trace g i)
        → times_in (cond b (0 ∷ map suc (places_in trace g)) (map suc (places_in trace g))) (suc i) ≡ one_if (is_of trace g i)
    by_test true rest =
        let other : one_if (0 == suc i) ≡ 0 = ap one_if (ne_eqb 0 (suc i) (λ same. absurd (omega (arith, same)))) in
        omega (arith, other, rest)
    by_test false rest = rest

-- how often a place stands in an order is a sum over it
times_summed : (x : List ℕ) (i : ℕ) → sum_by (λ j. one_if (j == i)) x ≡ times_in x i
unfolding times_in
times_summed [] i = refl
times_summed (j ∷ x) i = sum_by-cons (λ k. one_if (k == i)) j x ∙ ap (λ n. one_if (j == i) + n) (times_summed x i)

-- so that the order does not matter
pub times_permuted : (x y : List ℕ) (i : ℕ) → IsPermutation x y → times_in y i ≡ times_in x i
times_permuted x y i moved = sym (times_summed y i) ∙ sum_by-IsPermutation (λ j. one_if (j == i)) x y moved ∙ times_summed x i

-- two images change places where what they are the images of does
map_swapped : {X Y : Type 0} (f : X → Y) (xs : List X) (i j : ℕ) (d : X) → i < length xs → j < length xs → map f (swap xs i j) ≡ swap (map f xs) i j
map_swapped f xs i j d below under =
    let long : length (map f xs) ≡ length xs = length-map xs f in
    ap (map f) (sym (swap_is xs i j d below under))
    ∙ map-set f (set xs i (get_or xs j d)) j (get_or xs i d)
    ∙ ap (λ l. set l j (f (get_or xs i d))) (map-set f xs i (get_or xs j d))
    ∙ ap (λ y. set (set (map f xs) i y) j (f (get_or xs i d))) (sym (get_or-map f xs j d (f d) under))
    ∙ ap (λ y. set (set (map f xs) i (get_or (map f xs) j (f d))) j y) (sym (get_or-map f xs i d (f d) below))
    ∙ swap_is (map f xs) i j (f d) (omega (arith, below, long)) (omega (arith, under, long))

-- a list in another order, with these images
abbrev pub Lifts : {X Y : Type 0} → (X → Y) → List X → List Y → Type 0
Lifts {X} f xs ys = (zs : List X) × (map f zs ≡ ys) × IsPermutation xs zs

-- where the images are told in another order, what they are the images of can be too
pub lifted : {X Y : Type 0} (f : X → Y) (xs : List X) (ys : List Y) → IsPermutation (map f xs) ys → Lifts f xs ys
lifted {X} {Y} f xs ys moved = IsPermutation-keeps (map f xs) (Lifts f xs) (xs, refl, IsPermutation-refl xs) step ys moved
  where
    step : (l : List Y) (i j : ℕ) → i < length l → j < length l → Lifts f xs l → Lifts f xs (swap l i j)
    step l i j below under so_far = by_list so_far.0 so_far.1 so_far.2
      where
        by_list : (zs : List X) → map f zs ≡ l → IsPermutation xs zs → Lifts f xs (swap l i j)
        by_list [] is perm = absurd (omega (arith, below, ap length (sym is)))
        by_list (z ∷ zs) is perm =
            let long : length (z ∷ zs) ≡ length l = sym (length-map (z ∷ zs) f) ∙ ap length is in
            let first : i < length (z ∷ zs) = omega (arith, below, long) in
            let second : j < length (z ∷ zs) = omega (arith, under, long) in (
              swap (z ∷ zs) i j,
              map_swapped f (z ∷ zs) i j z first second ∙ ap (λ k. swap k i j) is,
              IsPermutation-trans xs (z ∷ zs) (swap (z ∷ zs) i j) perm (IsPermutation-swap (z ∷ zs) (swap (z ∷ zs) i j) i j first second refl),
            )

-- the operations of a granule, told in another order, stand at each of its places once
places_told : (trace ops : List Operation) (g : ℕ) → IsPermutation (filter (is_in g) trace) ops
    → (places : List ℕ) × (at_places trace places ≡ ops) × ((i : ℕ) → times_in places i ≡ one_if (is_of trace g i))
places_told trace ops g moved =
    let own = lifted (at trace) (places_in trace g) ops (subst (λ l. IsPermutation l ops) (sym (chosen_in trace g)) moved) in
    (own.0, own.1, λ i. times_permuted (places_in trace g) own.0 i own.2 ∙ each_in trace g i)

-- An order of them by themselves is one of the trace, in which the same operations come in turn
pub told_orders : (trace ops : List Operation) (g w : ℕ) (final_word : Option ℕ) (own : List ℕ) → IsPermutation (filter (is_in g) trace) ops
    → Finishes ops (is_place ops) w final_word own → (order : List ℕ) × ExplainsGranule trace g w final_word order × (at_places trace order ≡ at_places ops own)
told_orders trace ops g w final_word own moved h = (
  map (slice_index there.0) own,
  told_there trace (is_of trace g) there.0 w final_word there.2 own chosen,
  at_moved (at_places trace there.0) trace (slice_index there.0) own (chosen_moves trace there.0 w final_word own chosen) ∙ ap (λ l. at_places l own) there.1,
)
  where
    there : (places : List ℕ) × (at_places trace places ≡ ops) × ((i : ℕ) → times_in places i ≡ one_if (is_of trace g i))
    there = places_told trace ops g moved

    chosen : Finishes (at_places trace there.0) (is_place (at_places trace there.0)) w final_word own
    chosen = subst (λ l. Finishes l (is_place l) w final_word own) (sym there.1) h

-- so they can be explained by themselves exactly where they can in the trace
pub told_again : (trace ops : List Operation) (g w : ℕ) (final_word : Option ℕ) → IsPermutation (filter (is_in g) trace) ops
    → ((order : List ℕ) × ExplainsGranule trace g w final_word order) ↔ ((order : List ℕ) × Finishes ops (is_place ops) w final_word order)
told_again trace ops g w final_word moved = (
  λ h. let own = told_back trace (is_of trace g) there.0 w final_word there.2 h.0 h.1 in (own.0, subst (λ l. Finishes l (is_place l) w final_word own.0) there.1 own.1),
  λ h. let order = told_orders trace ops g w final_word h.0 moved h.1 in (order.0, order.1),
)
  where
    there : (places : List ℕ) × (at_places trace places ≡ ops) × ((i : ℕ) → times_in places i ≡ one_if (is_of trace g i))
    there = places_told trace ops g moved
