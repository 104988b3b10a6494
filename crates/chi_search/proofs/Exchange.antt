-- two equal operations change places in an order
use Rattle.std.proofs.Common.{◌≡◌, ℕ, ◌+◌, ◌^◌, ◌<◌, ◌≤◌, ◌==◌, ◌&&◌, Bool, true, false, cond, List, [], ◌∷◌, All, map, Option, IfSome, refl, sym, ap, subst, ◌∙◌, arith, eqb-true, eq-eqb, ne_eqb}
use Rattle.std.proofs.lemmas.Bool.{eqb-false}
use Rattle.chi_fields.specs.Access.{Access}
use Rattle.chi_lanes.specs.After.{after, answer}
use Rattle.chi_lanes.specs.Memory.{granule_start, word_at}
use Rattle.chi_history.specs.History.{one_if}
use Rattle.chi_trace.specs.declared.operation.Operation.{Operation}
use Rattle.chi_trace.specs.Explains.{IsInTime, at, is_answered, times_in}
use Rattle.chi_trace.specs.Granules.{Finishes, Fits, Play, last_word, next, with_word}
use Rattle.chi_trace.proofs.Places.{of_each, of_member}
use Rattle.chi_search.specs.Equal.{AreEqual}

fits_equal : (a b : Operation) (w : ℕ) → AreEqual a b → Fits a w → Fits b w
unfolding Fits
fits_equal a b w same fits =
    subst (λ seen. IfSome seen (λ reply. reply ≡ answer b.access (with_word (granule_start b.access.addr) w))) same.1
    (subst (λ (o : Access). IfSome a.reply (λ reply. reply ≡ answer o (with_word (granule_start o.addr) w))) same.0 fits)

next_equal : (a b : Operation) (w : ℕ) → AreEqual a b → next a w ≡ next b w
unfolding next
next_equal a b w same = ap (λ (o : Access). word_at (after o (with_word (granule_start o.addr) w)) (granule_start o.addr)) same.0

-- x in the place of y, and y in that of x
pub exchanged : ℕ → ℕ → ℕ → ℕ
exchanged x y j = cond (j == x) y (cond (j == y) x j)

-- what is true of each of these is true of what stands in the place
by_place : (x y j : ℕ) (P : ℕ → Type 0) → (j ≡ x → P y) → (j ≡ y → P x) → ((j ≡ x → ⊥) → (j ≡ y → ⊥) → P j) → P (exchanged x y j)
unfolding exchanged
by_place x y j P first second other = by_tests (j == x) refl (j == y) refl
  where
    by_tests : (b : Bool) → (j == x) ≡ b → (c : Bool) → (j == y) ≡ c → P (cond b y (cond c x j))
    by_tests true is c test = first (eqb-true j x is)
    by_tests false other_x true is = second (eqb-true j y is)
    by_tests false other_x false other_y = other (eqb-false j x other_x) (eqb-false j y other_y)

exchanged_x : (x y : ℕ) → exchanged x y x ≡ y
exchanged_x x y = by_place x y x (λ k. k ≡ y) (λ _. refl) (λ same. same) (λ differ _. absurd (differ refl))

exchanged_y : (x y : ℕ) → exchanged x y y ≡ x
exchanged_y x y = by_place x y y (λ k. k ≡ x) (λ same. same) (λ _. refl) (λ _ differ. absurd (differ refl))

-- twice exchanged is as before
exchanged_back : (x y j : ℕ) → exchanged x y (exchanged x y j) ≡ j
exchanged_back x y j = by_place x y j (λ k. exchanged x y k ≡ j) (λ same. exchanged_y x y ∙ sym same) (λ same. exchanged_x x y ∙ sym same)
    (λ differ apart. by_place x y j (λ k. k ≡ j) (λ same. absurd (differ same)) (λ same. absurd (apart same)) (λ _ _. refl))

same_test : (x y k j : ℕ) → (exchanged x y k == j) ≡ (k == exchanged x y j)
same_test x y k j = by_test (k == exchanged x y j) refl
  where
    by_test : (b : Bool) → (k == exchanged x y j) ≡ b → (exchanged x y k == j) ≡ b
    by_test true is = eq-eqb (exchanged x y k) j (ap (exchanged x y) (eqb-true k (exchanged x y j) is) ∙ exchanged_back x y j)
    by_test false other =
        ne_eqb (exchanged x y k) j (λ same. eqb-false k (exchanged x y j) other (sym (exchanged_back x y k) ∙ ap (exchanged x y) same))

times_in-exchanged : (x y : ℕ) (order : List ℕ) (j : ℕ) → times_in (map (exchanged x y) order) j ≡ times_in order (exchanged x y j)
unfolding times_in
times_in-exchanged x y [] j = refl
times_in-exchanged x y (k ∷ order) j = rw (same_test x y k j, times_in-exchanged x y order j) refl

-- each finds the word that the one in its place found
Play-exchanged : (ts : List Operation) (x y : ℕ) → AreEqual (at ts x) (at ts y) → (order : List ℕ) (w : ℕ) → Play ts w order
    → Play ts w (map (exchanged x y) order) × (last_word ts w (map (exchanged x y) order) ≡ last_word ts w order)
unfolding Play last_word
Play-exchanged ts x y equal [] w play = (tt, refl)
Play-exchanged ts x y equal (j ∷ order) w play =
    let rest = Play-exchanged ts x y equal order (next (at ts j) w) play.2 in
    let same = next_equal (at ts j) (at ts (exchanged x y j)) w alike in (
      (
        fits_equal (at ts j) (at ts (exchanged x y j)) w alike play.0,
        subst (λ v. v < 2 ^ 64) same play.1,
        subst (λ v. Play ts v (map (exchanged x y) order)) same rest.0,
      ),
      ap (λ v. last_word ts v (map (exchanged x y) order)) (sym same) ∙ rest.1,
    )
  where
    alike : AreEqual (at ts j) (at ts (exchanged x y j))
    alike = by_place x y j (λ k. AreEqual (at ts j) (at ts k)) (λ same. subst (λ k. AreEqual (at ts k) (at ts y)) (sym same) equal)
        (λ same. subst (λ k. AreEqual (at ts k) (at ts x)) (sym same) (sym equal.0, sym equal.1)) (λ _ _. (refl, refl))

-- x and y start by a time by which none ends, and x, which does not stand in the order, ends no earlier than y
pub record CanExchange (ts : List Operation) (x y time : ℕ) : Type 0 where
  pub equal : AreEqual (at ts x) (at ts y)
  pub x_starts : (at ts x).start ≤ time
  pub y_starts : (at ts y).start ≤ time
  pub ends : time ≤ (at ts y).end
  pub later : (at ts y).end ≤ (at ts x).end

all_later : (ts : List Operation) (x y time : ℕ) → CanExchange ts x y time → (order : List ℕ) → ((j : ℕ) → 0 < times_in order j → time ≤ (at ts j).end)
    → (k : ℕ) → 0 < times_in order (exchanged x y k) → time ≤ (at ts k).end
all_later ts x y time can order ends k = by_place x y k (λ m. 0 < times_in order m → time ≤ (at ts k).end)
    (λ same _. subst (λ m. time ≤ (at ts m).end) (sym same) (omega (arith, can.ends, can.later)))
    (λ same _. subst (λ m. time ≤ (at ts m).end) (sym same) can.ends) (λ _ _ some. ends k some)

-- one that starts by the end of each of the order starts by that of each once two are exchanged
still_early : (ts : List Operation) (x y time start : ℕ) → CanExchange ts x y time → (order : List ℕ) → times_in order x ≡ 0
    → All (λ j. start ≤ (at ts j).end) order → (k : ℕ) → 0 < times_in order (exchanged x y k) → start ≤ (at ts k).end
still_early ts x y time start can order none early k = by_place x y k (λ m. 0 < times_in order m → start ≤ (at ts k).end)
    (λ same some. let before : start ≤ (at ts y).end = of_member (λ j. start ≤ (at ts j).end) order y early some in
    subst (λ m. start ≤ (at ts m).end) (sym same) (omega (arith, before, can.later)))
    (λ same some. absurd (omega (arith, some, none)))
    (λ _ _ some. of_member (λ j. start ≤ (at ts j).end) order k early some)

-- what starts by the time may stand before the exchanged order
early_before : (ts : List Operation) (x y time start : ℕ) → CanExchange ts x y time → (order : List ℕ)
    → ((j : ℕ) → 0 < times_in order j → time ≤ (at ts j).end)
    → start ≤ time → All (λ k. start ≤ (at ts k).end) (map (exchanged x y) order)
early_before ts x y time start can order ends by = of_each (λ k. start ≤ (at ts k).end) (map (exchanged x y) order)
    (λ k some. let last = all_later ts x y time can order ends k (subst (λ n. 0 < n) (times_in-exchanged x y order k) some) in omega (arith, by, last))

IsInTime-exchanged : (ts : List Operation) (x y time : ℕ) → CanExchange ts x y time → (order : List ℕ) → times_in order x ≡ 0
    → ((j : ℕ) → 0 < times_in order j → time ≤ (at ts j).end) → IsInTime ts order → IsInTime ts (map (exchanged x y) order)
unfolding IsInTime times_in
IsInTime-exchanged ts x y time can [] none ends times = tt
IsInTime-exchanged ts x y time can (j ∷ order) none ends times = (head, IsInTime-exchanged ts x y time can order rest_none rest_ends times.1)
  where
    rest_none : times_in order x ≡ 0
    rest_none = omega (arith, none)

    rest_ends : (k : ℕ) → 0 < times_in order k → time ≤ (at ts k).end
    rest_ends k some = ends k (omega (arith, some))

    head : All (λ k. (at ts (exchanged x y j)).start ≤ (at ts k).end) (map (exchanged x y) order)
    head = by_place x y j (λ m. All (λ k. (at ts m).start ≤ (at ts k).end) (map (exchanged x y) order))
        (λ _. early_before ts x y time (at ts y).start can order rest_ends can.y_starts)
        (λ _. early_before ts x y time (at ts x).start can order rest_ends can.x_starts)
        (λ _ _. of_each (λ k. (at ts j).start ≤ (at ts k).end) (map (exchanged x y) order)
        (λ k some. still_early ts x y time (at ts j).start can order rest_none times.0 k (subst (λ n. 0 < n) (times_in-exchanged x y order k) some)))

-- an order that begins with x, with y in its place, and x where y stood
pub exchange : (ts : List Operation) (l : ℕ → Bool) (w : ℕ) (f : Option ℕ) (x y time : ℕ) (order : List ℕ) → CanExchange ts x y time → l x ≡ true
    → l y ≡ true
    → ((j : ℕ) → l j ≡ true → time ≤ (at ts j).end) → Finishes ts l w f (x ∷ order) → Finishes ts l w f (y ∷ map (exchanged x y) order)
unfolding times_in IsInTime
exchange ts l w f x y time order can is_x is_y ends c =
    subst (λ k. Finishes ts l w f (k ∷ map (exchanged x y) order)) (exchanged_x x y) (record {
      done = λ i. rw (times_in-exchanged x y (x ∷ order) i)
          (subst (λ b. one_if b ≤ times_in (x ∷ order) (exchanged x y i)) (due i) (c.done (exchanged x y i)));
      once = λ i. rw (times_in-exchanged x y (x ∷ order) i)
          (subst (λ b. times_in (x ∷ order) (exchanged x y i) ≤ one_if b) (left i) (c.once (exchanged x y i)));
      times = (
        subst (λ k. All (λ j. (at ts k).start ≤ (at ts j).end) (map (exchanged x y) order)) (sym (exchanged_x x y))
            (early_before ts x y time (at ts y).start can order each_ends can.y_starts),
        IsInTime-exchanged ts x y time can order none each_ends c.times.1,
      );
      plays = played.0;
      ending = subst (λ v. IfSome f (λ z. v ≡ z)) (sym played.1) c.ending;
    })
  where
    played : Play ts w (map (exchanged x y) (x ∷ order)) × (last_word ts w (map (exchanged x y) (x ∷ order)) ≡ last_word ts w (x ∷ order))
    played = Play-exchanged ts x y can.equal (x ∷ order) w c.plays

    left : (i : ℕ) → l (exchanged x y i) ≡ l i
    left i = by_place x y i (λ k. l k ≡ l i) (λ same. is_y ∙ sym (ap l same ∙ is_x)) (λ same. is_x ∙ sym (ap l same ∙ is_y)) (λ _ _. refl)

    seen : (i : ℕ) → (at ts (exchanged x y i)).reply ≡ (at ts i).reply
    seen i = by_place x y i (λ k. (at ts k).reply ≡ (at ts i).reply) (λ same. sym can.equal.1 ∙ ap (λ k. (at ts k).reply) (sym same))
        (λ same. can.equal.1 ∙ ap (λ k. (at ts k).reply) (sym same)) (λ _ _. refl)

    answered : (i : ℕ) → is_answered (at ts (exchanged x y i)) ≡ is_answered (at ts i)
    answered i = ap (λ r. is_answered (record (at ts i) { reply = r })) (seen i)

    due : (i : ℕ) → (l (exchanged x y i) && is_answered (at ts (exchanged x y i))) ≡ (l i && is_answered (at ts i))
    due i = rw (left i, answered i) refl

    none : times_in order x ≡ 0
    none =
        let one : one_if (x == x) ≡ 1 = ap one_if (eq-eqb x x refl) in
        let most : one_if (x == x) + times_in order x ≤ one_if (l x) = c.once x in
        omega (arith, one, most, ap one_if is_x)

    each_ends : (j : ℕ) → 0 < times_in order j → time ≤ (at ts j).end
    each_ends j some = ends j (by_test (l j) refl)
      where
        by_test : (b : Bool) → l j ≡ b → l j ≡ true
        by_test true is = is
        by_test false is =
            let most : one_if (x == j) + times_in order j ≤ one_if (l j) = c.once j in
            absurd (omega (arith, some, most, ap one_if is))
