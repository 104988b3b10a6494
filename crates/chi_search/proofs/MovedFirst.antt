-- an operation that can be moved before all that stand before it comes first
use Rattle.std.proofs.Common.{◌≡◌, ℕ, ◌+◌, ◌^◌, ◌<◌, ◌≤◌, ◌==◌, ◌&&◌, Bool, true, false, not, cond, List, [], ◌∷◌, length, Option, IfSome, refl, sym, ap, subst, ◌∙◌, arith, eqb-true, eq-eqb, ne_eqb}
use Rattle.std.proofs.lemmas.Bool.{eqb-false}
use Rattle.chi_history.specs.History.{one_if}
use Rattle.chi_trace.specs.declared.operation.Operation.{Operation}
use Rattle.chi_trace.specs.Explains.{IsInTime, at, is_answered, times_in}
use Rattle.chi_trace.specs.Granules.{Finishes, Fits, Play, last_word, next}
use Rattle.chi_trace.proofs.Orders.{IsInTime-filter, times_in-filter}
use Rattle.chi_trace.proofs.Places.{of_each, of_member}
use Rattle.chi_search.specs.Commuting.{MovesBefore, MovesBeforeAll}
use Rattle.chi_search.specs.Moves.{ByTaking, CanCome, Ends}
use Rattle.chi_search.specs.Positions.{Position, is_left}
use Rattle.chi_search.specs.Searchable.{AreSorted}
use Rattle.chi_search.proofs.Moves.{by_first, first_ends}
use Rattle.chi_search.proofs.Covers.{without}

-- the operation can be moved before each other one of an order that starts by its end
abbrev pub MovesBeforeEach : List Operation → ℕ → List ℕ → Type 0
MovesBeforeEach ts i order = (j : ℕ) → 0 < times_in order j → (j ≡ i → ⊥) → (at ts j).start ≤ (at ts i).end → MovesBefore (at ts i) (at ts j)

-- with it first the others play, and leave the same word
record PlaysFirst (ts : List Operation) (i w : ℕ) (rest order : List ℕ) : Type 0 where
  fits : Fits (at ts i) w
  below : next (at ts i) w < 2 ^ 64
  plays : Play ts (next (at ts i) w) rest
  same : last_word ts (next (at ts i) w) rest ≡ last_word ts w order

-- a place that does not stand in an order
without_none : (i : ℕ) (order : List ℕ) → times_in order i ≡ 0 → without i order ≡ order
unfolding times_in
without_none i [] none = refl
without_none i (j ∷ order) none = by_test (j == i) (without_none i order) none
  where
    by_test : (b : Bool) → (times_in order i ≡ 0 → without i order ≡ order) → one_if b + times_in order i ≡ 0
        → cond (not b) (j ∷ without i order) (without i order) ≡ j ∷ order
    by_test true rest none = absurd (omega (arith, none))
    by_test false rest none = ap (λ x. j ∷ x) (rest (omega (arith, none)))

plays_first : (ts : List Operation) (i : ℕ) (order : List ℕ) (w : ℕ) → w < 2 ^ 64 → times_in order i ≡ 1 → MovesBeforeEach ts i order
    → IsInTime ts order
    → Play ts w order → PlaysFirst ts i w (without i order) order
unfolding times_in IsInTime Play last_word
plays_first ts i [] w below one moves times play = absurd (omega (arith, one))
plays_first ts i (j ∷ order) w below one moves times play =
    by_test (j == i) refl (λ once. plays_first ts i order (next (at ts j) w) play.1 once rest_moves times.1 play.2) one
  where
    rest_moves : MovesBeforeEach ts i order
    rest_moves k some = moves k (omega (arith, some))

    by_test : (b : Bool) → (j == i) ≡ b → (times_in order i ≡ 1 → PlaysFirst ts i (next (at ts j) w) (without i order) order)
        → one_if b + times_in order i ≡ 1 → PlaysFirst ts i w (cond (not b) (j ∷ without i order) (without i order)) (j ∷ order)
    by_test true is later one =
        let same : without i order ≡ order = without_none i order (omega (arith, one)) in
        subst (λ k. PlaysFirst ts k w (without i order) (j ∷ order)) (eqb-true j i is) (record {
          fits = play.0;
          below = play.1;
          plays = subst (Play ts (next (at ts j) w)) (sym same) play.2;
          same = ap (last_word ts (next (at ts j) w)) same;
        })
    by_test false is later one =
        let rest = later (omega (arith, one)) in
        let early : (at ts j).start ≤ (at ts i).end = of_member (λ k. (at ts j).start ≤ (at ts k).end) order i times.0 (omega (arith, one)) in
        let here : 0 < times_in (j ∷ order) j = (let self : one_if (j == j) ≡ 1 = ap one_if (eq-eqb j j refl) in omega (arith, self)) in
        let before = moves j here (eqb-false j i is) early w below play.0 rest.fits in
        record {
          fits = before.fits;
          below = before.below;
          plays = (
            before.fits_after,
            subst (λ v. v < 2 ^ 64) (sym before.same) rest.below,
            subst (λ v. Play ts v (without i order)) (sym before.same) rest.plays,
          );
          same = ap (λ v. last_word ts v (without i order)) before.same ∙ rest.same;
        }

-- the order with it first
moved : (ts : List Operation) (l : ℕ → Bool) (w : ℕ) (f : Option ℕ) (i : ℕ) (order : List ℕ) → w < 2 ^ 64 → l i ≡ true → times_in order i ≡ 1
    → MovesBeforeEach ts i order → ((j : ℕ) → l j ≡ true → (at ts i).start ≤ (at ts j).end) → Finishes ts l w f order
    → Finishes ts l w f (i ∷ without i order)
unfolding times_in IsInTime Play last_word
moved ts l w f i order below left one moves early c =
    let first = plays_first ts i order w below one moves c.times c.plays in
    record {
      done = λ j. rw (times_in-filter (λ k. not (k == i)) order j) (done j (j == i) refl (l j && is_answered (at ts j)) (c.done j));
      once = λ j. rw (times_in-filter (λ k. not (k == i)) order j) (once j (j == i) refl (c.once j));
      times = (of_each (λ k. (at ts i).start ≤ (at ts k).end) (without i order) starts, IsInTime-filter ts (λ k. not (k == i)) order c.times);
      plays = (first.fits, first.below, first.plays);
      ending = subst (λ v. IfSome f (λ z. v ≡ z)) (sym first.same) c.ending;
    }
  where
    at_most_one : (b : Bool) → one_if b ≤ 1
    at_most_one true = omega arith
    at_most_one false = omega arith

    done : (j : ℕ) (b : Bool) → (j == i) ≡ b → (due : Bool) → one_if due ≤ times_in order j
        → one_if due ≤ one_if (i == j) + cond (not b) (times_in order j) 0
    done j true is due least =
        let self : one_if (i == j) ≡ 1 = ap one_if (eq-eqb i j (sym (eqb-true j i is))) in
        omega (arith, self, at_most_one due)
    done j false is due least = omega (arith, least)

    once : (j : ℕ) (b : Bool) → (j == i) ≡ b → times_in order j ≤ one_if (l j) → one_if (i == j) + cond (not b) (times_in order j) 0 ≤ one_if (l j)
    once j true is most =
        let there : one_if (l j) ≡ 1 = ap (λ k. one_if (l k)) (eqb-true j i is) ∙ ap one_if left in
        omega (arith, there, at_most_one (i == j))
    once j false is most =
        let differ : one_if (i == j) ≡ 0 = ap one_if (ne_eqb i j (λ same. eqb-false j i is (sym same))) in
        omega (arith, differ, most)

    starts : (k : ℕ) → 0 < times_in (without i order) k → (at ts i).start ≤ (at ts k).end
    starts k some = early k (by_tests (l k) (k == i) (c.once k) (subst (λ n. 0 < n) (times_in-filter (λ j. not (j == i)) order k) some))
      where
        by_tests : (b d : Bool) → times_in order k ≤ one_if b → 0 < cond (not d) (times_in order k) 0 → b ≡ true
        by_tests true d most some = refl
        by_tests false true most some = absurd (omega (arith, some))
        by_tests false false most some = absurd (omega (arith, some, most))

-- where an order goes on, one goes on by the operation
pub by_moved : (ops : List Operation) (final_word : Option ℕ) (p : Position) (i : ℕ) → AreSorted ops → p.word < 2 ^ 64 → CanCome ops p i
    → is_answered (at ops i) ≡ true → MovesBeforeAll ops p i → Ends ops final_word p → ByTaking ops final_word p i
by_moved ops final_word p i sorted below comes answered moves (order, c) =
    by_first ops final_word p i (without i order) comes
    (moved ops (is_left (length ops) p) p.word final_word i order below comes.0 one each early c)
  where
    one : times_in order i ≡ 1
    one =
        let due : one_if (is_left (length ops) p i && is_answered (at ops i)) ≤ times_in order i = c.done i in
        let is : (is_left (length ops) p i && is_answered (at ops i)) ≡ true = ap (λ b. b && is_answered (at ops i)) comes.0 ∙ answered in
        omega (arith, due, ap one_if is, c.once i, ap one_if comes.0)

    each : MovesBeforeEach ops i order
    each j some other starts = moves j (by_test (is_left (length ops) p j) (c.once j)) other starts
      where
        by_test : (b : Bool) → times_in order j ≤ one_if b → b ≡ true
        by_test true most = refl
        by_test false most = absurd (omega (arith, some, most))

    early : (j : ℕ) → is_left (length ops) p j ≡ true → (at ops i).start ≤ (at ops j).end
    early j left = let ends = first_ends ops p j sorted left in omega (arith, comes.1, ends)
