-- from what leads in the earlier and then in the later to what leads in the whole
use Rattle.std.proofs.Common.{◌≡◌, ℕ, ◌+◌, ◌-◌, ◌<◌, ◌≤◌, ◌==◌, ◌&&◌, Bool, true, false, List, [], ◌∷◌, ◌++◌, All, Some, true≢false, get_or, length, map, refl, sym, ap, subst, ◌∙◌, arith, eqb-true, length-append, ltb-true}
use Rattle.std.proofs.lemmas.Bool.{lt-ltb, ltb-false}
use Rattle.chi_history.specs.History.{one_if}
use Rattle.chi_trace.specs.declared.operation.Operation.{Operation}
use Rattle.chi_trace.specs.Explains.{at, is_answered, is_place, nothing, times_in}
use Rattle.chi_trace.specs.Granules.{Finishes, Play, last_word}
use Rattle.chi_trace.specs.Segments.{AreApart, AreLasting, Leads}
use Rattle.chi_trace.proofs.Moved.{Moves, in_time_joined, in_time_moved, last_joined, last_moved, play_joined, play_moved, times_in-append, times_moved}
use Rattle.chi_trace.proofs.Orders.{places_of}
use Rattle.chi_trace.proofs.Places.{of_each, of_member}
use Rattle.chi_trace.proofs.Segments.{at_earlier, at_later, later_place}

none_below : (n i : ℕ) (y : List ℕ) → i < n → times_in (map (λ j. n + j) y) i ≡ 0
unfolding times_in
none_below n i [] below = refl
none_below n i (j ∷ y) below = by_test ((n + j) == i) refl (none_below n i y below)
  where
    by_test : (b : Bool) → ((n + j) == i) ≡ b → times_in (map (λ j. n + j) y) i ≡ 0 → one_if b + times_in (map (λ j. n + j) y) i ≡ 0
    by_test true is h = let same : n + j ≡ i = eqb-true (n + j) i is in absurd (omega (arith, same, below))
    by_test false is h = omega (arith, h)

pub narrower : (p c q : Bool) → c ≡ true → one_if (p && q) ≤ one_if (c && q)
narrower true true q is = omega arith
narrower false c q is = omega arith
narrower true false true is = absurd (true≢false (sym is))
narrower true false false is = omega arith

-- none of the later ended before one of the earlier started
abbrev pub MayStandBefore : List Operation → List Operation → Type 0
MayStandBefore earlier later = All (λ op. All (λ other. op.start ≤ other.end) later) earlier

pub may_before : (a b : List Operation) → AreApart a b → AreLasting a → AreLasting b → MayStandBefore a b
may_before a b apart lasts lasting i d below j e under =
    let own = lasts i d below in
    let gap = apart i d below j e under in
    let its = lasting j e under in
    omega (arith, own, gap, its)

pub whole_leads : (a b : List Operation) (w v : ℕ) → MayStandBefore a b → (u : ℕ) → Leads a w u → Leads b u v → Leads (a ++ b) w v
whole_leads a b w v may u earlier later = (
  x ++ y,
  record {
    done = λ i. done i (is_place a i) refl (is_place ts i) refl;
    once = λ i. once i (is_place a i) refl;
    times = in_time_joined ts x y (in_time_moved a ts (λ i. i) x0 mx ex.times) (in_time_moved b ts (λ j. n + j) y0 my ey.times) cross;
    plays = play_joined ts w x y (play_moved a ts (λ i. i) w x0 mx ex.plays)
        (subst (λ (l : ℕ). Play ts l y) (sym last_x) (play_moved b ts (λ j. n + j) u y0 my ey.plays));
    ending = last_joined ts w x y ∙ (ap (λ l. last_word ts l y) last_x ∙ (last_moved b ts (λ j. n + j) u y0 my ∙ ey.ending));
  },
)
  where
    n : ℕ
    n = length a

    ts : List Operation
    ts = a ++ b

    x0 : List ℕ
    x0 = earlier.0

    y0 : List ℕ
    y0 = later.0

    ex : Finishes a (is_place a) w (Some u) x0
    ex = earlier.1

    ey : Finishes b (is_place b) u (Some v) y0
    ey = later.1

    x : List ℕ
    x = map (λ i. i) x0

    y : List ℕ
    y = map (λ j. n + j) y0

    mx : Moves a ts (λ i. i) x0
    mx k d under = at_earlier a b (get_or x0 k d) (places_of a x0 ex.once k d under)

    my : Moves b ts (λ j. n + j) y0
    my k d under = at_later a b (get_or y0 k d)

    last_x : last_word ts w x ≡ u
    last_x = last_moved a ts (λ i. i) w x0 mx ∙ ex.ending

    tx : (i : ℕ) → times_in x i ≡ times_in x0 i
    tx i = times_moved (λ i. i) i i x0 refl (λ k d under e. e)

    ty : (j : ℕ) → times_in y (n + j) ≡ times_in y0 j
    ty j = times_moved (λ j. n + j) j (n + j) y0 refl (λ k d under e. omega (arith, e))

    ends_in : (i : ℕ) → is_place a i ≡ true → times_in (x ++ y) i ≡ times_in x0 i
    ends_in i is = omega (arith, times_in-append x y i, tx i, none_below n i y0 (ltb-true i n is))

    done : (i : ℕ) (c : Bool) → is_place a i ≡ c → (d : Bool) → is_place ts i ≡ d
        → one_if (d && is_answered (at ts i)) ≤ times_in (x ++ y) i
    done i true is d whole =
        let own : one_if (is_place a i && is_answered (at ts i)) ≤ times_in x0 i =
        subst (λ (o : Operation). one_if (is_place a i && is_answered o) ≤ times_in x0 i) (sym (at_earlier a b i is)) (ex.done i) in
        omega (arith, own, narrower d (is_place a i) (is_answered (at ts i)) is, ends_in i is)
    done i false is false whole = omega arith
    done i false is true whole =
        let there = later_place a b i whole is in
        let same : at ts i ≡ at b there.0 = ap (at ts) there.1 ∙ at_later a b there.0 in
        let own : one_if (is_place b there.0 && is_answered (at ts i)) ≤ times_in y0 there.0 =
        subst (λ (o : Operation). one_if (is_place b there.0 && is_answered o) ≤ times_in y0 there.0) (sym same) (ey.done there.0) in
        omega (
          arith,
          own,
          narrower true (is_place b there.0) (is_answered (at ts i)) (lt-ltb there.0 (length b) there.2),
          times_in-append x y i,
          ap (times_in y) there.1 ∙ ty there.0,
        )

    once : (i : ℕ) (c : Bool) → is_place a i ≡ c → times_in (x ++ y) i ≤ one_if (is_place ts i)
    once i true is =
        let below : i < n = ltb-true i n is in
        let place : is_place ts i ≡ true = lt-ltb i (length ts) (omega (arith, length-append a b)) in
        omega (arith, ends_in i is, ex.once i, ap one_if is, ap one_if place)
    once i false is = by_place (is_place b j) refl
      where
        j : ℕ
        j = i - n

        on : i ≡ n + j
        on = let above : n ≤ i = ltb-false i n is in omega arith

        by_place : (d : Bool) → is_place b j ≡ d → times_in (x ++ y) i ≤ one_if (is_place ts i)
        by_place true there =
            let below : j < length b = ltb-true j (length b) there in
            let place : is_place ts i ≡ true = lt-ltb i (length ts) (omega (arith, length-append a b, on)) in
            omega (arith, times_in-append x y i, tx i, ex.once i, ap one_if is, ap (times_in y) on ∙ ty j, ey.once j, ap one_if there, ap one_if place)
        by_place false there =
            omega (arith, times_in-append x y i, tx i, ex.once i, ap one_if is, ap (times_in y) on ∙ ty j, ey.once j, ap one_if there)

    cross : All (λ i. All (λ j. (at ts i).start ≤ (at ts j).end) y) x
    cross = of_each (λ i. All (λ j. (at ts i).start ≤ (at ts j).end) y) x (λ i some. of_each (λ j. (at ts i).start ≤ (at ts j).end) y (λ j more. pair i j some more))
      where
        pair : (i j : ℕ) → 0 < times_in x i → 0 < times_in y j → (at ts i).start ≤ (at ts j).end
        pair i j some more = by_place (is_place a j) refl
          where
            is : is_place a i ≡ true
            is = of_member (λ l. is_place a l ≡ true) x0 i (places_of a x0 ex.once) (omega (arith, tx i, some))

            by_place : (c : Bool) → is_place a j ≡ c → (at ts i).start ≤ (at ts j).end
            by_place true early = absurd (omega (arith, more, none_below n j y0 (ltb-true j n early)))
            by_place false past =
                let k : ℕ = j - n in
                let above : n ≤ j = ltb-false j n past in
                let on : j ≡ n + k = omega arith in
                let stands : 0 < times_in y0 k = omega (arith, more, ap (times_in y) on ∙ ty k) in
                let below : k < length b = ltb-true k (length b) (of_member (λ l. is_place b l ≡ true) y0 k (places_of b y0 ey.once) stands) in
                let first : (at a i).start ≤ (at b k).end = may i nothing (ltb-true i n is) k nothing below in
                let start : (at ts i).start ≡ (at a i).start = ap (λ (o : Operation). o.start) (at_earlier a b i is) in
                let end : (at ts j).end ≡ (at b k).end = ap (λ l. (at ts l).end) on ∙ ap (λ (o : Operation). o.end) (at_later a b k) in omega (arith, first, start, end)
