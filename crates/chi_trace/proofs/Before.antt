-- an order up to the last of its operations that had ended by a time
use Rattle.std.proofs.Common.{◌≡◌, ℕ, ◌+◌, ◌≤◌, ◌==◌, nat_le, Bool, true, false, ◌||◌, cond, List, [], ◌∷◌, All, refl, sym, ap, ◌∙◌, arith, eqb-true, true≢false}
use Rattle.std.proofs.lemmas.Bool.{leb-true, or_parts}
use Rattle.std.proofs.lemmas.List.Elements.{All-cons, All-head, All-tail}
use Rattle.chi_lanes.specs.After.{after}
use Rattle.chi_lanes.specs.Memory.{Memory}
use Rattle.chi_history.specs.History.{one_if}
use Rattle.chi_trace.specs.declared.operation.Operation.{Operation}
use Rattle.chi_trace.specs.Explains.{Answers, IsInTime, at, times_in}

-- it had ended by a time
abbrev pub has_ended : ℕ → Operation → Bool
has_ended time op = nat_le op.end time

-- one of the order had
unfoldable pub some_ended : List Operation → ℕ → List ℕ → Bool
some_ended ts time [] = false
some_ended ts time (i ∷ x) = has_ended time (at ts i) || some_ended ts time x

unfoldable pub before : List Operation → ℕ → List ℕ → List ℕ
before ts time [] = []
before ts time (i ∷ x) = cond (some_ended ts time (i ∷ x)) (i ∷ before ts time x) []

-- no operation of an order in which none had ended by a time had
none_stands : (ts : List Operation) (time : ℕ) (x : List ℕ) (i : ℕ) → some_ended ts time x ≡ false → has_ended time (at ts i) ≡ true → times_in x i ≡ 0
unfolding times_in some_ended
none_stands ts time [] i none ended = refl
none_stands ts time (j ∷ x) i none ended = by_test (j == i) refl (none_stands ts time x i (or_parts _ _ none).1 ended)
  where
    by_test : (b : Bool) → (j == i) ≡ b → times_in x i ≡ 0 → one_if b + times_in x i ≡ 0
    by_test true same rest =
        absurd (true≢false (sym ended ∙ (ap (λ k. has_ended time (at ts k)) (sym (eqb-true j i same)) ∙ (or_parts (has_ended time (at ts j)) (some_ended ts time x) none).0)))
    by_test false same rest = omega (arith, rest)

-- each that had ended stands in it as often as in the whole order
pub ended_stands : (ts : List Operation) (time : ℕ) (x : List ℕ) (i : ℕ) → has_ended time (at ts i) ≡ true → times_in (before ts time x) i ≡ times_in x i
unfolding times_in before
ended_stands ts time [] i ended = refl
ended_stands ts time (j ∷ x) i ended = by_test (some_ended ts time (j ∷ x)) refl (ended_stands ts time x i ended)
  where
    by_test : (b : Bool) → some_ended ts time (j ∷ x) ≡ b → times_in (before ts time x) i ≡ times_in x i
        → times_in (cond b (j ∷ before ts time x) []) i ≡ times_in (j ∷ x) i
    by_test true some rest = ap (λ n. one_if (j == i) + n) rest
    by_test false none rest = sym (none_stands ts time (j ∷ x) i none ended)

-- none stands in it more often
pub stands_no_more : (ts : List Operation) (time : ℕ) (x : List ℕ) (i : ℕ) → times_in (before ts time x) i ≤ times_in x i
unfolding times_in before
stands_no_more ts time [] i = omega arith
stands_no_more ts time (j ∷ x) i = by_test (some_ended ts time (j ∷ x)) (stands_no_more ts time x i)
  where
    by_test : (b : Bool) → times_in (before ts time x) i ≤ times_in x i
        → times_in (cond b (j ∷ before ts time x) []) i ≤ one_if (j == i) + times_in x i
    by_test true rest = omega arith
    by_test false rest = omega arith

-- what is true of each operation of the order is true of each in it
pub all_before : (P : ℕ → Type 0) (ts : List Operation) (time : ℕ) (x : List ℕ) → All P x → All P (before ts time x)
unfolding before
all_before P ts time [] all = all
all_before P ts time (i ∷ x) all = by_test (some_ended ts time (i ∷ x)) (all_before P ts time x (All-tail P i x all))
  where
    by_test : (b : Bool) → All P (before ts time x) → All P (cond b (i ∷ before ts time x) [])
    by_test true rest = All-cons P i (before ts time x) (All-head P i x all) rest
    by_test false rest = none
      where
        none : All P []
        none k d under = absurd (omega (arith, under))

-- an order in time stays so
pub in_time_before : (ts : List Operation) (time : ℕ) (x : List ℕ) → IsInTime ts x → IsInTime ts (before ts time x)
unfolding before IsInTime
in_time_before ts time [] h = tt
in_time_before ts time (i ∷ x) h = by_test (some_ended ts time (i ∷ x)) (in_time_before ts time x h.1)
  where
    by_test : (b : Bool) → IsInTime ts (before ts time x) → IsInTime ts (cond b (i ∷ before ts time x) [])
    by_test true rest = (all_before (λ j. (at ts i).start ≤ (at ts j).end) ts time x h.0, rest)
    by_test false rest = tt

-- and its replies stay the memory's answers
pub answers_before : (ts : List Operation) (time : ℕ) (m : Memory) (x : List ℕ) → Answers ts m x → Answers ts m (before ts time x)
unfolding before Answers
answers_before ts time m [] h = tt
answers_before ts time m (i ∷ x) h = by_test (some_ended ts time (i ∷ x)) (answers_before ts time (after (at ts i).access m) x h.1)
  where
    by_test : (b : Bool) → Answers ts (after (at ts i).access m) (before ts time x) → Answers ts m (cond b (i ∷ before ts time x) [])
    by_test true rest = (h.0, rest)
    by_test false rest = tt

-- where one of these had ended by a time, what is no later than the end of each is no later than the time
reached : (ts : List Operation) (time n : ℕ) (x : List ℕ) → some_ended ts time x ≡ true → All (λ j. n ≤ (at ts j).end) x → n ≤ time
unfolding some_ended
reached ts time n [] some all = absurd (true≢false (sym some))
reached ts time n (i ∷ x) some all = by_test (has_ended time (at ts i)) refl (λ later. reached ts time n x later (All-tail (λ j. n ≤ (at ts j).end) i x all))
  where
    least : n ≤ (at ts i).end
    least = All-head (λ j. n ≤ (at ts j).end) i x all

    by_test : (b : Bool) → has_ended time (at ts i) ≡ b → (some_ended ts time x ≡ true → n ≤ time) → n ≤ time
    by_test true ended rest = let by : (at ts i).end ≤ time = leb-true (at ts i).end time ended in omega (arith, least)
    by_test false later rest = rest (sym (ap (λ b. b || some_ended ts time x) later) ∙ some)

-- each operation in it had started
pub started_before : (ts : List Operation) (time : ℕ) (x : List ℕ) → All (λ i. (at ts i).start ≤ (at ts i).end) x → IsInTime ts x
    → All (λ i. (at ts i).start ≤ time) (before ts time x)
unfolding before IsInTime
started_before ts time [] lasting h = none
  where
    none : All (λ i. (at ts i).start ≤ time) []
    none k d under = absurd (omega (arith, under))
started_before ts time (i ∷ x) lasting h =
    by_test (some_ended ts time (i ∷ x)) refl (started_before ts time x (All-tail (λ j. (at ts j).start ≤ (at ts j).end) i x lasting) h.1)
  where
    none : All (λ j. (at ts j).start ≤ time) []
    none k d under = absurd (omega (arith, under))

    all : All (λ j. (at ts i).start ≤ (at ts j).end) (i ∷ x)
    all = All-cons (λ j. (at ts i).start ≤ (at ts j).end) i x (All-head (λ j. (at ts j).start ≤ (at ts j).end) i x lasting) h.0

    by_test : (b : Bool) → some_ended ts time (i ∷ x) ≡ b → All (λ j. (at ts j).start ≤ time) (before ts time x)
        → All (λ j. (at ts j).start ≤ time) (cond b (i ∷ before ts time x) [])
    by_test true some rest = All-cons (λ j. (at ts j).start ≤ time) i (before ts time x) (reached ts time (at ts i).start (i ∷ x) some all) rest
    by_test false some rest = none
