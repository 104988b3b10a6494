-- the operations of a run are read in their order
use Rattle.std.proofs.Common.{◌≡◌, ℕ, zero, suc, ◌+◌, ◌<◌, ◌≤◌, ◌==◌, nat_lt, Bool, true, false, List, [], ◌∷◌, ◌++◌, All, append_assoc, length, length-append, refl, ap, subst, ◌∙◌, arith, eqb-true, eq-eqb, ltb-true}
use Rattle.std.proofs.Math.Seq.{get_or-append_seam}
use Rattle.std.proofs.lemmas.Bool.{le-ltb, lt-ltb, ltb-false}
use Rattle.std.proofs.lemmas.Bool.Decides.{nat_tests}
use Rattle.std.proofs.lemmas.List.Elements.{All-head, All-tail}
use Rattle.std.specs.List.{range_with_len}
use Rattle.std.specs.Prelude.{map}
use Rattle.chi_history.specs.History.{one_if}
use Rattle.chi_trace.specs.declared.operation.Operation.{Operation}
use Rattle.chi_trace.specs.AtPlaces.{at_places}
use Rattle.chi_trace.specs.Explains.{IsTrace, at, is_place, nothing, times_in}
use Rattle.chi_run_laws.proofs.Executions.{AreApart}

-- one of them starts no earlier than the first place
starts_past : (ops : List Operation) (place i : ℕ) → AreApart place ops → i < length ops → place ≤ (at ops i).start
unfolding AreApart
starts_past [] place i apart below = absurd (omega arith)
starts_past (op ∷ ops) place zero apart below = apart.0
starts_past (op ∷ ops) place (suc i) apart below = let later = starts_past ops (op.start + 1) i apart.2 (omega arith) in omega (arith, later, apart.0)

-- an earlier one starts before a later one
starts_before : (ops : List Operation) (place i j : ℕ) → AreApart place ops → i < j → j < length ops → (at ops i).start < (at ops j).start
unfolding AreApart
starts_before [] place i j apart earlier below = absurd (omega arith)
starts_before (op ∷ ops) place zero zero apart earlier below = absurd (omega arith)
starts_before (op ∷ ops) place zero (suc j) apart earlier below = let later = starts_past ops (op.start + 1) j apart.2 (omega arith) in omega (arith, later)
starts_before (op ∷ ops) place (suc i) zero apart earlier below = absurd (omega arith)
starts_before (op ∷ ops) place (suc i) (suc j) apart earlier below = starts_before ops (op.start + 1) i j apart.2 (omega arith) (omega arith)

-- what is so of each operation that was chosen is so of one of them
one_chosen : (P : Operation → Type 0) (ops : List Operation) (order : List ℕ) (i : ℕ) → 1 ≤ times_in order i → All P (at_places ops order) → P (at ops i)
unfolding times_in
one_chosen P ops [] i there each = absurd (omega arith)
one_chosen P ops (j ∷ order) i there each = by_test (j == i) refl (λ later. one_chosen P ops order i later (All-tail P (at ops j) (at_places ops order) each))
  where
    by_test : (b : Bool) → (j == i) ≡ b → (1 ≤ times_in order i → P (at ops i)) → P (at ops i)
    by_test true same later = let is : j ≡ i = eqb-true j i same in subst (λ k. P (at ops k)) is (All-head P (at ops j) (at_places ops order) each)
    by_test false other later = let not_here : one_if (j == i) ≡ 0 = ap one_if other in later (omega (arith, there, not_here))

-- how often each place stands in an order: those from the first on once, so many of them
pub record IsOnce (a n : ℕ) (order : List ℕ) : Type 0 where
  pub before : (i : ℕ) → i < a → times_in order i ≡ 0
  pub inside : (i : ℕ) → a ≤ i → i < a + n → times_in order i ≡ 1
  pub past : (i : ℕ) → a + n ≤ i → times_in order i ≡ 0

counted : (j : ℕ) (order : List ℕ) (i : ℕ) → times_in (j ∷ order) i ≡ one_if (j == i) + times_in order i
unfolding times_in
counted j order i = refl

here : (j : ℕ) → one_if (j == j) ≡ 1
here j = ap one_if (eq-eqb j j refl)

-- an order in which they stand by their starts is that of their places
order_is : (ops : List Operation) (place a n : ℕ) (order : List ℕ) → AreApart place ops → a + n ≡ length ops → IsOnce a n order → IsTrace (at_places ops order)
    → order ≡ range_with_len a n
unfolding IsTrace times_in
order_is ops place a zero [] apart count once sorted = refl
order_is ops place a zero (j ∷ order) apart count once sorted = absurd (none (nat_lt j a) refl)
  where
    none : (b : Bool) → nat_lt j a ≡ b → ⊥
    none true is = let zero_times = once.before j (ltb-true j a is) in absurd (omega (arith, counted j order j, here j, zero_times))
    none false is = let zero_times = once.past j (let past = ltb-false j a is in omega (arith, past)) in absurd (omega (arith, counted j order j, here j, zero_times))
order_is ops place a (suc n) [] apart count once sorted = absurd (none (once.inside a (omega arith) (omega arith)))
  where
    none : times_in [] a ≡ 1 → ⊥
    none is = absurd (omega (arith, is))
order_is ops place a (suc n) (j ∷ order) apart count once sorted =
    let first : j ≡ a = first_is in
    let rest : order ≡ range_with_len (a + 1) n = order_is ops place (a + 1) n order apart (omega arith) rest_once sorted.2 in
    ap (λ k. k ∷ order) first ∙ ap (λ l. a ∷ l) rest
  where
    above : a ≤ j
    above = by_test (nat_lt j a) refl
      where
        by_test : (b : Bool) → nat_lt j a ≡ b → a ≤ j
        by_test true is = let zero_times = once.before j (ltb-true j a is) in absurd (omega (arith, counted j order j, here j, zero_times))
        by_test false is = ltb-false j a is

    below : j < a + suc n
    below = by_test (nat_lt j (a + suc n)) refl
      where
        by_test : (b : Bool) → nat_lt j (a + suc n) ≡ b → j < a + suc n
        by_test true is = ltb-true j (a + suc n) is
        by_test false is = let zero_times = once.past j (ltb-false j (a + suc n) is) in absurd (omega (arith, counted j order j, here j, zero_times))

    first_is : j ≡ a
    first_is = by_test (nat_lt a j) refl
      where
        by_test : (b : Bool) → nat_lt a j ≡ b → j ≡ a
        by_test false is = let not_later = ltb-false a j is in omega (arith, not_later, above)
        by_test true is =
            let later : a < j = ltb-true a j is in
            let one : times_in (j ∷ order) a ≡ 1 = once.inside a (omega arith) (omega arith) in
            let other : one_if (j == a) ≡ 0 = apart_from_first (j == a) refl in
            let there : 1 ≤ times_in order a = omega (arith, counted j order a, one, other) in
            let no_earlier : (at ops j).start ≤ (at ops a).start = one_chosen (λ op. (at ops j).start ≤ op.start) ops order a there sorted.1 in
            let earlier : (at ops a).start < (at ops j).start = starts_before ops place a j apart later (omega (arith, below, count)) in
            absurd (omega (arith, no_earlier, earlier))
          where
            apart_from_first : (b : Bool) → (j == a) ≡ b → one_if b ≡ 0
            apart_from_first true same = let is_first : j ≡ a = eqb-true j a same in let later : a < j = ltb-true a j is in absurd (omega (arith, is_first, later))
            apart_from_first false other = refl

    times_first : (i : ℕ) → times_in (j ∷ order) i ≡ one_if (a == i) + times_in order i
    times_first i = counted j order i ∙ ap (λ k. one_if (k == i) + times_in order i) first_is

    rest_once : IsOnce (a + 1) n order
    rest_once = record {
      before = λ i earlier. by_first i earlier (a == i) refl;
      inside = λ i over under. let one = once.inside i (omega arith) (omega arith) in let none = not_first i (omega arith) (a == i) refl in omega (arith, one, none, times_first i);
      past = λ i over. let zero_times = once.past i (omega arith) in omega (arith, zero_times, times_first i);
    }
      where
        by_first : (i : ℕ) → i < a + 1 → (b : Bool) → (a == i) ≡ b → times_in order i ≡ 0
        by_first i earlier true same =
            let is : a ≡ i = eqb-true a i same in
            let one = once.inside i (omega (arith, is)) (omega (arith, is)) in
            let first_time : one_if (a == i) ≡ 1 = ap one_if same in
            omega (arith, one, first_time, times_first i)
        by_first i earlier false other =
            let zero_times = once.before i (not_a i earlier other) in omega (arith, zero_times, times_first i)
          where
            not_a : (i : ℕ) → i < a + 1 → (a == i) ≡ false → i < a
            not_a i earlier other = grind (arith, nat_tests)

        not_first : (i : ℕ) → a < i → (b : Bool) → (a == i) ≡ b → one_if (a == i) ≡ 0
        not_first i later true same = let is : a ≡ i = eqb-true a i same in absurd (omega (arith, is, later))
        not_first i later false other = ap one_if other

-- all operations in the order of their places
pub all_chosen : (before rest : List Operation) → map (at (before ++ rest)) (range_with_len (length before) (length rest)) ≡ rest
all_chosen before [] = refl
all_chosen before (op ∷ rest) =
    let first : at (before ++ op ∷ rest) (length before) ≡ op = get_or-append_seam before op rest nothing in
    let whole : (before ++ op ∷ []) ++ rest ≡ before ++ op ∷ rest = append_assoc before (op ∷ []) rest in
    let count : length (before ++ op ∷ []) ≡ length before + 1 = length-append before (op ∷ []) in
    let later : map (at (before ++ op ∷ rest)) (range_with_len (length before + 1) (length rest)) ≡ rest =
    subst (λ n. map (at (before ++ op ∷ rest)) (range_with_len n (length rest)) ≡ rest) count
    (subst (λ (l : List Operation). map (at l) (range_with_len (length (before ++ op ∷ [])) (length rest)) ≡ rest) whole (all_chosen (before ++ op ∷ []) rest)) in
    ap (λ (o : Operation). o ∷ map (at (before ++ op ∷ rest)) (range_with_len (length before + 1) (length rest))) first ∙ ap (λ (l : List Operation). op ∷ l) later

-- the operations that are apart, each once and by their starts, are those operations
pub in_order : (ops : List Operation) (order : List ℕ) → AreApart 0 ops → ((i : ℕ) → times_in order i ≡ one_if (is_place ops i)) → IsTrace (at_places ops order)
    → at_places ops order ≡ ops
in_order ops order apart each sorted =
    ap (map (at ops)) (order_is ops 0 0 (length ops) order apart (omega arith) (record { before = before; inside = inside; past = past }) sorted) ∙ all_chosen [] ops
  where
    before : (i : ℕ) → i < 0 → times_in order i ≡ 0
    before i none = absurd (omega arith)

    inside : (i : ℕ) → 0 ≤ i → i < 0 + length ops → times_in order i ≡ 1
    inside i over under = let below : i < length ops = omega arith in each i ∙ ap one_if (lt-ltb i (length ops) below)

    past : (i : ℕ) → 0 + length ops ≤ i → times_in order i ≡ 0
    past i over = let none : length ops ≤ i = omega arith in each i ∙ ap one_if (le-ltb i (length ops) none)
