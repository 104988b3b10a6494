-- from what leads in the whole to what leads in the earlier and then in the later
use Rattle.std.proofs.Common.{◌≡◌, ℕ, ◌+◌, ◌-◌, ◌≤◌, ◌&&◌, not, Bool, true, false, cond, List, ◌++◌, All, Some, filter, get_or, length, map, refl, sym, ap, subst, ◌∙◌, arith, length-append, ltb-true}
use Rattle.std.proofs.lemmas.Bool.{lt-ltb, le-ltb, ltb-false}
use Rattle.std.proofs.lemmas.List.Elements.{All-filter}
use Rattle.chi_history.specs.History.{one_if}
use Rattle.chi_trace.specs.declared.operation.Operation.{Operation}
use Rattle.chi_trace.specs.Explains.{at, is_answered, is_place, times_in}
use Rattle.chi_trace.specs.Granules.{Finishes, Play, last_word}
use Rattle.chi_trace.specs.Segments.{AreApart, Leads}
use Rattle.chi_trace.proofs.AfterQuiet.{narrower}
use Rattle.chi_trace.proofs.Moved.{Moves, in_time_moved, last_joined, last_moved, play_moved, play_parted, times_moved}
use Rattle.chi_trace.proofs.Orders.{ArePlaces, IsInTime-filter, places_of, times_in-filter}
use Rattle.chi_trace.proofs.Segments.{at_earlier, at_later, divides, kept}

negated : (b : Bool) → not b ≡ true → b ≡ false
negated true is = sym is
negated false is = refl

pub parts_lead : (a b : List Operation) (w v : ℕ) → AreApart a b → Leads (a ++ b) w v → (u : ℕ) × Leads a w u × Leads b u v
parts_lead a b w v apart whole = (
  u,
  (
    map (λ i. i) x,
    record {
      done = λ i. done_x i (is_place a i) refl;
      once = λ i. once_x i (is_place a i) refl;
      times = in_time_moved ts a (λ i. i) x mx (IsInTime-filter ts (is_place a) z e.times);
      plays = play_moved ts a (λ i. i) w x mx parted.0;
      ending = last_moved ts a (λ i. i) w x mx;
    },
  ),
  (
    map (λ i. i - n) y,
    record {
      done = λ j. done_y j (is_place b j) refl;
      once = λ j. once_y j (is_place b j) refl;
      times = in_time_moved ts b (λ i. i - n) y my (IsInTime-filter ts (λ i. not (is_place a i)) z e.times);
      plays = play_moved ts b (λ i. i - n) u y my parted.1;
      ending = last_moved ts b (λ i. i - n) u y my ∙ (sym (last_joined ts w x y) ∙ (ap (last_word ts w) (sym same) ∙ e.ending));
    },
  ),
)
  where
    n : ℕ
    n = length a

    ts : List Operation
    ts = a ++ b

    z : List ℕ
    z = whole.0

    e : Finishes ts (is_place ts) w (Some v) z
    e = whole.1

    x : List ℕ
    x = filter (is_place a) z

    y : List ℕ
    y = filter (λ i. not (is_place a i)) z

    u : ℕ
    u = last_word ts w x

    same : z ≡ x ++ y
    same = divides a b z apart (places_of ts z e.once) e.times

    parted : Play ts w x × Play ts u y
    parted = play_parted ts w x y (subst (λ (l : List ℕ). Play ts w l) same e.plays)

    mx : Moves ts a (λ i. i) x
    mx k d under = sym (at_earlier a b (get_or x k d) (kept (is_place a) z k d under))

    past : All (λ i. is_place a i ≡ false) y
    past k d under = negated (is_place a (get_or y k d)) (kept (λ i. not (is_place a i)) z k d under)

    places : ArePlaces ts y
    places = All-filter (λ i. not (is_place a i)) (λ i. is_place ts i ≡ true) z (places_of ts z e.once)

    my : Moves ts b (λ i. i - n) y
    my k d under =
        let i : ℕ = get_or y k d in
        let above : n ≤ i = ltb-false i n (past k d under) in
        let on : i ≡ n + (i - n) = omega arith in
        sym (ap (at ts) on ∙ at_later a b (i - n))

    tx : (i : ℕ) → times_in (map (λ i. i) x) i ≡ cond (is_place a i) (times_in z i) 0
    tx i = times_moved (λ i. i) i i x refl (λ k d under is. is) ∙ times_in-filter (is_place a) z i

    ty : (j : ℕ) → times_in (map (λ i. i - n) y) j ≡ times_in z (n + j)
    ty j =
        times_moved (λ i. i - n) (n + j) j y (omega arith) (λ k d under is. let above : n ≤ get_or y k d = ltb-false (get_or y k d) n (past k d under) in omega (arith, is))
        ∙ (times_in-filter (λ i. not (is_place a i)) z (n + j) ∙ ap (λ c. cond (not c) (times_in z (n + j)) 0) (le-ltb (n + j) n (omega arith)))

    done_x : (i : ℕ) (c : Bool) → is_place a i ≡ c → one_if (c && is_answered (at a i)) ≤ times_in (map (λ i. i) x) i
    done_x i false is = omega arith
    done_x i true is =
        let place : is_place ts i ≡ true = lt-ltb i (length ts) (omega (arith, length-append a b, ltb-true i n is)) in
        let own : one_if (is_place ts i && is_answered (at a i)) ≤ times_in z i =
        subst (λ (o : Operation). one_if (is_place ts i && is_answered o) ≤ times_in z i) (at_earlier a b i is) (e.done i) in
        omega (arith, own, narrower true (is_place ts i) (is_answered (at a i)) place, tx i ∙ ap (λ c. cond c (times_in z i) 0) is)

    once_x : (i : ℕ) (c : Bool) → is_place a i ≡ c → times_in (map (λ i. i) x) i ≤ one_if c
    once_x i false is = omega (arith, tx i ∙ ap (λ c. cond c (times_in z i) 0) is)
    once_x i true is =
        let place : is_place ts i ≡ true = lt-ltb i (length ts) (omega (arith, length-append a b, ltb-true i n is)) in
        omega (arith, tx i ∙ ap (λ c. cond c (times_in z i) 0) is, e.once i, ap one_if place)

    done_y : (j : ℕ) (c : Bool) → is_place b j ≡ c → one_if (c && is_answered (at b j)) ≤ times_in (map (λ i. i - n) y) j
    done_y j false is = omega arith
    done_y j true is =
        let place : is_place ts (n + j) ≡ true = lt-ltb (n + j) (length ts) (omega (arith, length-append a b, ltb-true j (length b) is)) in
        let own : one_if (is_place ts (n + j) && is_answered (at b j)) ≤ times_in z (n + j) =
        subst (λ (o : Operation). one_if (is_place ts (n + j) && is_answered o) ≤ times_in z (n + j)) (at_later a b j) (e.done (n + j)) in
        omega (arith, own, narrower true (is_place ts (n + j)) (is_answered (at b j)) place, ty j)

    once_y : (j : ℕ) (c : Bool) → is_place b j ≡ c → times_in (map (λ i. i - n) y) j ≤ one_if c
    once_y j true is =
        let place : is_place ts (n + j) ≡ true = lt-ltb (n + j) (length ts) (omega (arith, length-append a b, ltb-true j (length b) is)) in
        omega (arith, ty j, e.once (n + j), ap one_if place)
    once_y j false is =
        let outside : is_place ts (n + j) ≡ false = le-ltb (n + j) (length ts) (omega (arith, length-append a b, ltb-false j (length b) is)) in
        omega (arith, ty j, e.once (n + j), ap one_if outside)
