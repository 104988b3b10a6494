-- a position is dead where an operation must find, or the end must have, what no run of operations leads to
use Rattle.std.proofs.Common.{◌≡◌, ℕ, ◌+◌, ◌^◌, ◌<◌, ◌≤◌, ◌==◌, ◌&&◌, ◌∙◌, Bool, true, false, List, [], ◌∷◌, All, length, Option, None, Some, refl, sym, subst, ap, arith, eqb-true, eq-eqb, inl, inr}
use Rattle.std.proofs.lemmas.List.Elements.{All-cons, All-head, All-tail}
use Rattle.chi_history.specs.History.{one_if}
use Rattle.chi_trace.specs.declared.operation.Operation.{Operation}
use Rattle.chi_trace.specs.Explains.{IsInTime, at, is_answered, times_in}
use Rattle.chi_trace.specs.Granules.{Fits, next}
use Rattle.chi_trace.proofs.Places.{none, of_each, of_member, passes}
use Rattle.chi_search.specs.Effects.{Agree}
use Rattle.chi_search.specs.declared.making.Later.{Later}
use Rattle.chi_search.specs.Makers.{CannotMake, IsPart, IsRunOf, IsUnmade, LeadsTo, MayPrecede, MayPrecedeEach, later_than}
use Rattle.chi_search.specs.Positions.{Position, is_left}
use Rattle.chi_search.specs.Within.{IsDeadWithin, PlayWithin, StepsTo}

-- the bits that a step leaves are those of a word that it may have left
left_bits : (mask bits word : ℕ) (ops : List Operation) (i t u : ℕ) → IsPart bits mask → (steps : StepsTo mask (at ops i) t u) → Agree bits word u
    → Agree bits word (next (at ops i) steps.word)
left_bits mask bits word ops i t u within steps agree k one = agree k one ∙ steps.leaves k (within k one)

-- and the bits that it finds are those of the word before it
found_bits : (mask bits word : ℕ) (ops : List Operation) (i t u : ℕ) → IsPart bits mask → (steps : StepsTo mask (at ops i) t u) → Agree bits word steps.word
    → Agree bits word t
found_bits mask bits word ops i t u within steps agree k one = agree k one ∙ sym (steps.finds k (within k one))

-- operations that may stand before one, and before those that come later than it
with_next : (ops : List Operation) (later : Later) (i : ℕ) (run : List ℕ) → All (λ j. MayPrecede ops j (Some i)) run
    → All (λ j. MayPrecedeEach ops j later) run → All (λ j. MayPrecedeEach ops j (later_than i later)) run
with_next ops later i run first rest =
    of_each (λ j. MayPrecedeEach ops j (later_than i later)) run (λ j some.
    let others = of_member (λ j. MayPrecedeEach ops j later) run j rest some in
    (of_member (λ j. MayPrecede ops j (Some i)) run j first some, others.0, others.1, others.2))

-- where no operation makes these bits, and they are not there at first, no run leads to them
pub unmade : (mask : ℕ) (ops : List Operation) (p : Position) (later : Later) (word bits : ℕ) → IsPart bits mask → (Agree bits word p.word → ⊥)
    → ((i : ℕ) → CannotMake mask ops p later word bits i) → IsUnmade mask ops p later word bits
unfolding IsRunOf LeadsTo
unmade mask ops p later word bits within absent each [] u is before leads agree = absent (λ k one. agree k one ∙ sym (leads k (within k one)))
unmade mask ops p later word bits within absent each (i ∷ run) u is before (t, leads, steps) agree =
    elim (each i is.0 (All-head (λ j. MayPrecedeEach ops j later) i run before)) [
      | inl makes_none ↦
          let there = makes_none steps.word steps.below steps.fits (left_bits mask bits word ops i t u within steps agree) in
          unmade mask ops p later word bits within absent each run t is.2 (All-tail (λ j. MayPrecedeEach ops j later) i run before) leads
          (found_bits mask bits word ops i t u within steps there)
      | inr lacks ↦
          let first = with_next ops later i run is.1 (All-tail (λ j. MayPrecedeEach ops j later) i run before) in
          elim (lacks.wants steps.word steps.below steps.fits (left_bits mask bits word ops i t u within steps agree)) [
            | inl there ↦ lacks.unmade run t is.2 first leads (found_bits mask lacks.wanted.bits lacks.wanted.word ops i t u lacks.within steps there)
            | inr there ↦ lacks.other run t is.2 first leads (found_bits mask lacks.wanted.bits lacks.wanted.other ops i t u lacks.within steps there)
          ]
    ]

-- each of a run may stand before each of an order
abbrev IsBefore : List Operation → List ℕ → List ℕ → Type 0
IsBefore ops run x = All (λ k. All (λ j. MayPrecede ops j (Some k)) run) x

-- so may the first of the order, before the others
first_before : (ops : List Operation) (l : ℕ → Bool) (j : ℕ) (x : List ℕ) → ((i : ℕ) → times_in (j ∷ x) i ≤ one_if (l i))
    → All (λ k. (at ops j).start ≤ (at ops k).end) x → All (λ k. MayPrecede ops j (Some k)) x
unfolding times_in
first_before ops l j x once starts =
    of_each (λ k. MayPrecede ops j (Some k)) x (λ k some. (λ same. twice k some same, of_member (λ k. (at ops j).start ≤ (at ops k).end) x k starts some))
  where
    most : (b : Bool) → one_if b ≤ 1
    most true = omega arith
    most false = omega arith

    twice : (k : ℕ) → 0 < times_in x k → j ≡ k → ⊥
    twice k some same =
        let here : one_if (j == k) ≡ 1 = ap one_if (eq-eqb j k same) in
        let all : one_if (j == k) + times_in x k ≤ one_if (l k) = once k in
        omega (arith, here, all, some, most (l k))

-- a run that goes on by the first of the order stands before the rest
goes_on : (ops : List Operation) (run : List ℕ) (j : ℕ) (x : List ℕ) → IsBefore ops run x → All (λ k. MayPrecede ops j (Some k)) x → IsBefore ops (j ∷ run) x
goes_on ops run j x before first =
    of_each (λ k. All (λ i. MayPrecede ops i (Some k)) (j ∷ run)) x (λ k some.
    All-cons (λ i. MayPrecede ops i (Some k)) j run (of_member (λ k. MayPrecede ops j (Some k)) x k first some)
    (of_member (λ k. All (λ i. MayPrecede ops i (Some k)) run) x k before some))

-- fewer times in the rest
fewer : (l : ℕ → Bool) (j : ℕ) (x : List ℕ) → ((i : ℕ) → times_in (j ∷ x) i ≤ one_if (l i)) → (i : ℕ) → times_in x i ≤ one_if (l i)
unfolding times_in
fewer l j x once i = let all : one_if (j == i) + times_in x i ≤ one_if (l i) = once i in omega (arith, all)

-- only the operation at this place comes later, or none does
abbrev pub only_before : Option ℕ → Later
only_before other = record { next = other; second = None; third = None; fourth = None }

of_one : (ops : List Operation) (other : Option ℕ) (run : List ℕ) → All (λ j. MayPrecede ops j other) run
    → All (λ j. MayPrecedeEach ops j (only_before other)) run
of_one ops other run first =
    of_each (λ j. MayPrecedeEach ops j (only_before other)) run (λ j some. (of_member (λ j. MayPrecede ops j other) run j first some, tt, tt, tt))

-- an order has no operation that must find bits to which no run leads
not_found : (mask bits word : ℕ) (ops : List Operation) (final_word : Option ℕ) (p : Position) (y : ℕ) → IsPart bits mask
    → ((w : ℕ) → w < 2 ^ 64 → Fits (at ops y) w → Agree bits word w) → IsUnmade mask ops p (only_before (Some y)) word bits
    → (x run : List ℕ) (v : ℕ) → IsRunOf ops (is_left (length ops) p) run → LeadsTo mask ops p.word run v → IsBefore ops run x
    → All (λ i. is_left (length ops) p i ≡ true) x → ((i : ℕ) → times_in x i ≤ one_if (is_left (length ops) p i)) → IsInTime ops x
    → PlayWithin mask ops final_word v x → 0 < times_in x y → ⊥
unfolding times_in IsInTime PlayWithin IsRunOf LeadsTo
not_found mask bits word ops final_word p y within finds out [] run v is leads before left once times play some = absurd (omega (arith, some))
not_found mask bits word ops final_word p y within finds out (j ∷ x) run v is leads before left once times (u, steps, rest) some =
    by_test (j == y) refl (λ later.
    not_found mask bits word ops final_word p y within finds out x (j ∷ run) u
    (All-head (λ i. is_left (length ops) p i ≡ true) j x left, early, is) (v, leads, steps)
    (goes_on ops run j x (All-tail (λ k. All (λ i. MayPrecede ops i (Some k)) run) j x before) (first_before ops (is_left (length ops) p) j x once times.0))
    (All-tail (λ i. is_left (length ops) p i ≡ true) j x left) (fewer (is_left (length ops) p) j x once) times.1 rest later)
  where
    early : All (λ i. MayPrecede ops i (Some j)) run
    early = All-head (λ k. All (λ i. MayPrecede ops i (Some k)) run) j x before

    by_test : (b : Bool) → (j == y) ≡ b → (0 < times_in x y → ⊥) → ⊥
    by_test true same more =
        let found = finds steps.word steps.below (subst (λ i. Fits (at ops i) steps.word) (eqb-true j y same) steps.fits) in
        out run v is (of_one ops (Some y) run (subst (λ k. All (λ i. MayPrecede ops i (Some k)) run) (eqb-true j y same) early)) leads
        (found_bits mask bits word ops j v u within steps found)
    by_test false other more = more (omega (arith, some, ap one_if other))

-- and does not leave them
not_left : (mask bits seen : ℕ) (ops : List Operation) (p : Position) → IsPart bits mask → IsUnmade mask ops p (only_before None) seen bits
    → (x run : List ℕ) (v : ℕ) → IsRunOf ops (is_left (length ops) p) run → LeadsTo mask ops p.word run v → IsBefore ops run x
    → All (λ i. is_left (length ops) p i ≡ true) x → ((i : ℕ) → times_in x i ≤ one_if (is_left (length ops) p i)) → IsInTime ops x
    → PlayWithin mask ops (Some seen) v x → ⊥
unfolding IsInTime PlayWithin IsRunOf LeadsTo
not_left mask bits seen ops p within out [] run v is leads before left once times play =
    out run v is (of_each (λ i. MayPrecedeEach ops i (only_before None)) run (λ i some. (tt, tt, tt, tt))) leads (λ k one. sym (play k (within k one)))
not_left mask bits seen ops p within out (j ∷ x) run v is leads before left once times (u, steps, rest) =
    not_left mask bits seen ops p within out x (j ∷ run) u (
      All-head (λ i. is_left (length ops) p i ≡ true) j x left,
      All-head (λ k. All (λ i. MayPrecede ops i (Some k)) run) j x before,
      is,
    )
    (v, leads, steps)
    (goes_on ops run j x (All-tail (λ k. All (λ i. MayPrecede ops i (Some k)) run) j x before) (first_before ops (is_left (length ops) p) j x once times.0))
    (All-tail (λ i. is_left (length ops) p i ≡ true) j x left) (fewer (is_left (length ops) p) j x once) times.1 rest

-- no run stands before an order
at_first : (ops : List Operation) (x : List ℕ) → IsBefore ops [] x
at_first ops x = of_each (λ k. All (λ i. MayPrecede ops i (Some k)) []) x (λ k some. none (λ i. MayPrecede ops i (Some k)))

-- an operation that was answered, and is left, stands in each order
pub dead_found : (mask bits word : ℕ) (ops : List Operation) (final_word : Option ℕ) (p : Position) (y : ℕ) → IsPart bits mask → is_left (length ops) p y ≡ true
    → is_answered (at ops y) ≡ true
    → ((w : ℕ) → w < 2 ^ 64 → Fits (at ops y) w → Agree bits word w) → IsUnmade mask ops p (only_before (Some y)) word bits
    → IsDeadWithin mask ops final_word p
unfolding IsRunOf LeadsTo
dead_found mask bits word ops final_word p y within left answered finds out (x, c) =
    let due : one_if (is_left (length ops) p y && is_answered (at ops y)) ≤ times_in x y = c.done y in
    let both : (is_left (length ops) p y && is_answered (at ops y)) ≡ true = ap (λ b. b && is_answered (at ops y)) left ∙ answered in
    not_found mask bits word ops final_word p y within finds out x [] p.word tt (λ k one. refl) (at_first ops x) (passes (is_left (length ops) p) x c.once) c.once
    c.times c.plays (omega (arith, due, ap one_if both))

pub dead_at_end : (mask bits seen : ℕ) (ops : List Operation) (p : Position) → IsPart bits mask → IsUnmade mask ops p (only_before None) seen bits
    → IsDeadWithin mask ops (Some seen) p
unfolding IsRunOf LeadsTo
dead_at_end mask bits seen ops p within out (x, c) =
    not_left mask bits seen ops p within out x [] p.word tt (λ k one. refl) (at_first ops x) (passes (is_left (length ops) p) x c.once) c.once c.times c.plays
