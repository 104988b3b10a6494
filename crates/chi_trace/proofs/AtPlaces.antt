-- the operations that a test leaves, told by themselves
use Rattle.std.proofs.Common.{◌≡◌, ℕ, zero, suc, ◌+◌, ◌<◌, ◌≤◌, ◌==◌, ◌&&◌, Bool, true, false, cond, List, [], ◌∷◌, All, get_or, length, map, slice_index, Option, refl, sym, ap, subst, ◌∙◌, arith, eqb-true, eq-eqb, ltb-true, true≢false}
use Rattle.std.proofs.lemmas.Bool.{lt-ltb}
use Rattle.std.proofs.lemmas.List.{get_or-map, length-map}
use Rattle.std.proofs.lemmas.List.Elements.{All-cons, All-head, All-tail}
use Rattle.std.proofs.lemmas.Option.{IfSome_then}
use Rattle.chi_history.specs.History.{one_if}
use Rattle.chi_trace.specs.declared.operation.Operation.{Operation}
use Rattle.chi_trace.specs.AtPlaces.{at_places}
use Rattle.chi_trace.specs.Explains.{at, is_answered, is_place, nothing, times_in}
use Rattle.chi_trace.specs.Granules.{Finishes}
use Rattle.chi_trace.proofs.Moved.{Moves, in_time_moved, last_moved, play_moved, times_moved}
use Rattle.chi_trace.proofs.Orders.{places_of}
use Rattle.chi_trace.proofs.Places.{none, of_member, passes}

-- the first index at which a number stands
unfoldable place_in : List ℕ → ℕ → ℕ
place_in [] i = 0
place_in (j ∷ places) i = cond (j == i) 0 (suc (place_in places i))

-- a number that stands in a list stands at its index
stands : (places : List ℕ) (i : ℕ) → 0 < times_in places i → (place_in places i < length places) × (slice_index places (place_in places i) ≡ i)
unfolding times_in place_in
stands [] i some = absurd (omega (arith, some))
stands (j ∷ places) i some = by_test (j == i) refl (stands places i) some
  where
    by_test : (b : Bool) → (j == i) ≡ b → (0 < times_in places i → (place_in places i < length places) × (slice_index places (place_in places i) ≡ i))
        → 0 < one_if b + times_in places i
        → (cond b 0 (suc (place_in places i)) < suc (length places)) × (slice_index (j ∷ places) (cond b 0 (suc (place_in places i))) ≡ i)
    by_test true is rest h = (omega arith, eqb-true j i is)
    by_test false is rest h = let there = rest (omega (arith, h)) in let below = there.0 in (omega (arith, below), there.1)

-- what stands at an index stands in the list
member : (places : List ℕ) (k : ℕ) → k < length places → 0 < times_in places (slice_index places k)
unfolding times_in
member [] k below = absurd (omega (arith, below))
member (j ∷ places) zero below = let same : one_if (j == j) ≡ 1 = ap one_if (eq-eqb j j refl) in omega (arith, same)
member (j ∷ places) (suc k) below =
    let rest : k < length places = omega (arith, below) in
    let there = member places k rest in
    omega (arith, there)

-- where each number stands once, what stands at an index stands there first
first : (places : List ℕ) (k : ℕ) → ((i : ℕ) → times_in places i ≤ 1) → k < length places → place_in places (slice_index places k) ≡ k
unfolding times_in place_in
first [] k once below = absurd (omega (arith, below))
first (j ∷ places) zero once below = ap (λ (b : Bool). cond b 0 (suc (place_in places j))) (eq-eqb j j refl)
first (j ∷ places) (suc k) once below = by_test (j == i) (once i) (first places k fewer rest)
  where
    i : ℕ
    i = slice_index places k

    rest : k < length places
    rest = omega (arith, below)

    fewer : (l : ℕ) → times_in places l ≤ 1
    fewer l = let whole = once l in omega (arith, whole)

    by_test : (b : Bool) → one_if b + times_in places i ≤ 1 → place_in places i ≡ k → cond b 0 (suc (place_in places i)) ≡ suc k
    by_test true most same = let there = member places k rest in absurd (omega (arith, most, there))
    by_test false most same = ap suc same

-- the operation at an index is the one at the place that stands there
at_chosen : (trace : List Operation) (places : List ℕ) (k : ℕ) → k < length places → at (at_places trace places) k ≡ at trace (slice_index places k)
at_chosen trace places k below = get_or-map (at trace) places k 0 nothing below

-- an index is a place of what was chosen
is_index : (trace : List Operation) (places : List ℕ) (k : ℕ) → is_place (at_places trace places) k ≡ true → k < length places
is_index trace places k place =
    let below : k < length (at_places trace places) = ltb-true k (length (at_places trace places)) place in
    let same : length (at_places trace places) ≡ length places = length-map places (at trace) in
    omega (arith, below, same)

-- and what was chosen has a place at each index
index_place : (trace : List Operation) (places : List ℕ) (k : ℕ) → k < length places → is_place (at_places trace places) k ≡ true
index_place trace places k below =
    let same : length (at_places trace places) ≡ length places = length-map places (at trace) in
    lt-ltb k (length (at_places trace places)) (omega (arith, below, same))

-- the list has each place that is left once
abbrev HasEach : (ℕ → Bool) → List ℕ → Type 0
HasEach left places = (i : ℕ) → times_in places i ≡ one_if (left i)

-- a place that is left stands at its index
place_of : (left : ℕ → Bool) (places : List ℕ) (i : ℕ) → HasEach left places → left i ≡ true
    → (place_in places i < length places) × (slice_index places (place_in places i) ≡ i)
place_of left places i each is = stands places i (omega (arith, each i, ap one_if is))

-- what stands at an index is left
left_at : (left : ℕ → Bool) (places : List ℕ) (k : ℕ) → HasEach left places → k < length places → left (slice_index places k) ≡ true
left_at left places k each below = by_test (left (slice_index places k)) (each (slice_index places k)) (member places k below)
  where
    by_test : (b : Bool) → times_in places (slice_index places k) ≡ one_if b → 0 < times_in places (slice_index places k) → b ≡ true
    by_test true same some = refl
    by_test false same some = absurd (omega (arith, same, some))

-- what stands at an index has that index
index_of : (left : ℕ → Bool) (places : List ℕ) (k : ℕ) → HasEach left places → k < length places → place_in places (slice_index places k) ≡ k
index_of left places k each below = first places k (λ i. at_most i (left i) (each i)) below
  where
    at_most : (i : ℕ) (b : Bool) → times_in places i ≡ one_if b → times_in places i ≤ 1
    at_most i true same = omega (arith, same)
    at_most i false same = omega (arith, same)

-- what is true of the image of each place is true of each that stands among the images
of_image : (P : ℕ → Type 0) (f : ℕ → ℕ) (x : List ℕ) → All (λ i. P (f i)) x → All P (map f x)
of_image P f [] h = none P
of_image P f (i ∷ x) h =
    All-cons P (f i) (map f x) (All-head (λ j. P (f j)) i x h) (of_image P f x (All-tail (λ j. P (f j)) i x h))

-- where each place of an order passes a test, one that does not pass stands nowhere in it
nowhere : (p : ℕ → Bool) (x : List ℕ) (i : ℕ) → All (λ j. p j ≡ true) x → p i ≡ false → times_in x i ≡ 0
nowhere p x i all out = by_number (times_in x i) refl
  where
    by_number : (n : ℕ) → times_in x i ≡ n → n ≡ 0
    by_number zero is = refl
    by_number (suc n) is = absurd (true≢false (sym (of_member (λ j. p j ≡ true) x i all (omega (arith, is))) ∙ out))

-- what finishes them has indices alone
chosen_below : (trace : List Operation) (places : List ℕ) (w : ℕ) (final_word : Option ℕ) (order : List ℕ)
    → Finishes (at_places trace places) (is_place (at_places trace places)) w final_word order → All (λ k. k < length places) order
chosen_below trace places w final_word order h n d under = is_index trace places (get_or order n d) (places_of (at_places trace places) order h.once n d under)

-- so that each stands in the trace, at the place of its index
pub chosen_moves : (trace : List Operation) (places : List ℕ) (w : ℕ) (final_word : Option ℕ) (order : List ℕ)
    → Finishes (at_places trace places) (is_place (at_places trace places)) w final_word order → Moves (at_places trace places) trace (slice_index places) order
chosen_moves trace places w final_word order h n d under = sym (at_chosen trace places (get_or order n d) (chosen_below trace places w final_word order h n d under))

-- from the operations told by themselves to the trace
pub told_there : (trace : List Operation) (left : ℕ → Bool) (places : List ℕ) (w : ℕ) (final_word : Option ℕ) → HasEach left places → (order : List ℕ)
    → Finishes (at_places trace places) (is_place (at_places trace places)) w final_word order → Finishes trace left w final_word (map (slice_index places) order)
told_there trace left places w final_word each order h = record {
  done = λ i. done i (left i) refl;
  once = λ i. once i (left i) refl;
  times = in_time_moved own trace f order moves h.times;
  plays = play_moved own trace f w order moves h.plays;
  ending = IfSome_then final_word h.ending (λ v is_v. last_moved own trace f w order moves ∙ is_v);
}
  where
    own : List Operation
    own = at_places trace places

    f : ℕ → ℕ
    f = slice_index places

    below : All (λ k. k < length places) order
    below = chosen_below trace places w final_word order h

    moves : Moves own trace f order
    moves = chosen_moves trace places w final_word order h

    are_left : All (λ i. left i ≡ true) (map f order)
    are_left = of_image (λ i. left i ≡ true) f order (λ n d under. left_at left places (get_or order n d) each (below n d under))

    moved : (i : ℕ) → left i ≡ true → times_in (map f order) i ≡ times_in order (place_in places i)
    moved i is =
        times_moved f (place_in places i) i order (place_of left places i each is).1
        (λ n d under to. sym (index_of left places (get_or order n d) each (below n d under)) ∙ ap (place_in places) to)

    done : (i : ℕ) (b : Bool) → left i ≡ b → one_if (b && is_answered (at trace i)) ≤ times_in (map f order) i
    done i false is = omega arith
    done i true is =
        let k : ℕ = place_in places i in
        let there = place_of left places i each is in
        let same : at own k ≡ at trace i = at_chosen trace places k there.0 ∙ ap (at trace) there.1 in
        subst (λ n. one_if (is_answered (at trace i)) ≤ n) (sym (moved i is))
        (subst (λ o. one_if (is_answered o) ≤ times_in order k) same
        (subst (λ c. one_if (c && is_answered (at own k)) ≤ times_in order k) (index_place trace places k there.0) (h.done k)))

    once : (i : ℕ) (b : Bool) → left i ≡ b → times_in (map f order) i ≤ one_if b
    once i false is = omega (arith, nowhere left (map f order) i are_left is)
    once i true is =
        let k : ℕ = place_in places i in
        omega (arith, moved i is, h.once k, ap one_if (index_place trace places k (place_of left places i each is).0))

-- and back
pub told_back : (trace : List Operation) (left : ℕ → Bool) (places : List ℕ) (w : ℕ) (final_word : Option ℕ) → HasEach left places → (order : List ℕ)
    → Finishes trace left w final_word order
    → (own : List ℕ) × Finishes (at_places trace places) (is_place (at_places trace places)) w final_word own × (order ≡ map (slice_index places) own)
told_back trace left places w final_word each order h = (
  map g order,
  record {
    done = λ k. done k (is_place own k) refl;
    once = λ k. once k (is_place own k) refl;
    times = in_time_moved trace own g order moves h.times;
    plays = play_moved trace own g w order moves h.plays;
    ending = IfSome_then final_word h.ending (λ v is_v. last_moved trace own g w order moves ∙ is_v);
  },
  same_order order are_left,
)
  where
    own : List Operation
    own = at_places trace places

    g : ℕ → ℕ
    g = place_in places

    are_left : All (λ i. left i ≡ true) order
    are_left = passes left order h.once

    moves : Moves trace own g order
    moves n d under =
        let there = place_of left places (get_or order n d) each (are_left n d under) in
        at_chosen trace places (g (get_or order n d)) there.0 ∙ ap (at trace) there.1

    are_indices : All (λ k. is_place own k ≡ true) (map g order)
    are_indices =
        of_image (λ k. is_place own k ≡ true) g order
        (λ n d under. index_place trace places (g (get_or order n d)) (place_of left places (get_or order n d) each (are_left n d under)).0)

    same_order : (x : List ℕ) → All (λ i. left i ≡ true) x → x ≡ map (slice_index places) (map g x)
    same_order [] all = refl
    same_order (i ∷ x) all =
        ap (λ j. j ∷ x) (sym (place_of left places i each (All-head (λ j. left j ≡ true) i x all)).1)
        ∙ ap (λ y. slice_index places (g i) ∷ y) (same_order x (All-tail (λ j. left j ≡ true) i x all))

    moved : (k : ℕ) → k < length places → times_in (map g order) k ≡ times_in order (slice_index places k)
    moved k below =
        times_moved g (slice_index places k) k order (index_of left places k each below)
        (λ n d under to. sym (place_of left places (get_or order n d) each (are_left n d under)).1 ∙ ap (slice_index places) to)

    done : (k : ℕ) (b : Bool) → is_place own k ≡ b → one_if (b && is_answered (at own k)) ≤ times_in (map g order) k
    done k false is = omega arith
    done k true is =
        let below = is_index trace places k is in
        let i : ℕ = slice_index places k in
        subst (λ n. one_if (is_answered (at own k)) ≤ n) (sym (moved k below))
        (subst (λ o. one_if (is_answered o) ≤ times_in order i) (sym (at_chosen trace places k below))
        (subst (λ c. one_if (c && is_answered (at trace i)) ≤ times_in order i) (left_at left places k each below) (h.done i)))

    once : (k : ℕ) (b : Bool) → is_place own k ≡ b → times_in (map g order) k ≤ one_if b
    once k false is = omega (arith, nowhere (is_place own) (map g order) k are_indices is)
    once k true is =
        let below = is_index trace places k is in
        let i : ℕ = slice_index places k in
        omega (arith, moved k below, h.once i, ap one_if (left_at left places k each below))
