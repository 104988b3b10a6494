-- orders moved to the places of another trace, and orders one after the other
use Rattle.std.proofs.Common.{◌≡◌, ℕ, ◌+◌, ◌<◌, ◌≤◌, ◌^◌, ◌==◌, Bool, true, false, List, [], ◌∷◌, ◌++◌, map, All, refl, sym, ap, subst, ◌∙◌, arith, eqb-true, eq-eqb, true≢false}
use Rattle.std.proofs.lemmas.List.Elements.{All-append, All-cons, All-head, All-tail}
use Rattle.chi_history.specs.History.{one_if}
use Rattle.chi_trace.specs.declared.operation.Operation.{Operation}
use Rattle.chi_trace.specs.Explains.{IsInTime, at, times_in}
use Rattle.chi_trace.specs.Granules.{Fits, Play, last_word, next}
use Rattle.chi_trace.proofs.Places.{none}

-- each operation of the order stands in the other trace, at the place to which it is moved
abbrev pub Moves : List Operation → List Operation → (ℕ → ℕ) → List ℕ → Type 0
Moves ts us f x = All (λ i. at us (f i) ≡ at ts i) x

-- the same operations come in turn
pub at_moved : (ts us : List Operation) (f : ℕ → ℕ) (x : List ℕ) → Moves ts us f x → map (at us) (map f x) ≡ map (at ts) x
at_moved ts us f [] same = refl
at_moved ts us f (i ∷ x) same =
    ap (λ o. o ∷ map (at us) (map f x)) (All-head (λ j. at us (f j) ≡ at ts j) i x same)
    ∙ ap (λ l. at ts i ∷ l) (at_moved ts us f x (All-tail (λ j. at us (f j) ≡ at ts j) i x same))

pub play_moved : (ts us : List Operation) (f : ℕ → ℕ) (w : ℕ) (x : List ℕ) → Moves ts us f x → Play ts w x → Play us w (map f x)
unfolding Play
play_moved ts us f w [] same h = tt
play_moved ts us f w (i ∷ x) same h =
    subst Told (sym (All-head (λ j. at us (f j) ≡ at ts j) i x same))
    (h.0, h.1, play_moved ts us f (next (at ts i) w) x (All-tail (λ j. at us (f j) ≡ at ts j) i x same) h.2)
  where
    Told : Operation → Type 0
    Told o = Fits o w × (next o w < 2 ^ 64) × Play us (next o w) (map f x)

pub last_moved : (ts us : List Operation) (f : ℕ → ℕ) (w : ℕ) (x : List ℕ) → Moves ts us f x → last_word us w (map f x) ≡ last_word ts w x
unfolding last_word
last_moved ts us f w [] same = refl
last_moved ts us f w (i ∷ x) same =
    ap (λ (o : Operation). last_word us (next o w) (map f x)) (All-head (λ j. at us (f j) ≡ at ts j) i x same)
    ∙ last_moved ts us f (next (at ts i) w) x (All-tail (λ j. at us (f j) ≡ at ts j) i x same)

all_moved : (P : Operation → Type 0) (ts us : List Operation) (f : ℕ → ℕ) (x : List ℕ) → Moves ts us f x → All (λ i. P (at ts i)) x
    → All (λ i. P (at us i)) (map f x)
all_moved P ts us f [] same h = none (λ i. P (at us i))
all_moved P ts us f (i ∷ x) same h =
    All-cons (λ j. P (at us j)) (f i) (map f x)
    (subst P (sym (All-head (λ j. at us (f j) ≡ at ts j) i x same)) (All-head (λ j. P (at ts j)) i x h))
    (all_moved P ts us f x (All-tail (λ j. at us (f j) ≡ at ts j) i x same) (All-tail (λ j. P (at ts j)) i x h))

pub in_time_moved : (ts us : List Operation) (f : ℕ → ℕ) (x : List ℕ) → Moves ts us f x → IsInTime ts x → IsInTime us (map f x)
unfolding IsInTime
in_time_moved ts us f [] same h = tt
in_time_moved ts us f (i ∷ x) same h = (
  subst (λ (o : Operation). All (λ j. o.start ≤ (at us j).end) (map f x)) (sym (All-head (λ j. at us (f j) ≡ at ts j) i x same))
      (all_moved (λ o. (at ts i).start ≤ o.end) ts us f x rest h.0),
  in_time_moved ts us f x rest h.1,
)
  where
    rest : Moves ts us f x
    rest = All-tail (λ j. at us (f j) ≡ at ts j) i x same

-- a place stands where it is moved to as often as before, if no other is moved there
pub times_moved : (f : ℕ → ℕ) (i k : ℕ) (x : List ℕ) → f i ≡ k → All (λ j. f j ≡ k → j ≡ i) x → times_in (map f x) k ≡ times_in x i
unfolding times_in
times_moved f i k [] is alone = refl
times_moved f i k (j ∷ x) is alone =
    by_test (f j == k) refl (j == i) refl (times_moved f i k x is (All-tail (λ l. f l ≡ k → l ≡ i) j x alone))
  where
    by_test : (b : Bool) → (f j == k) ≡ b → (d : Bool) → (j == i) ≡ d → times_in (map f x) k ≡ times_in x i
        → one_if b + times_in (map f x) k ≡ one_if d + times_in x i
    by_test true to true same h = ap (λ n. one_if true + n) h
    by_test true to false same h =
        absurd (true≢false (sym (eq-eqb j i (All-head (λ l. f l ≡ k → l ≡ i) j x alone (eqb-true (f j) k to))) ∙ same))
    by_test false to true same h = absurd (true≢false (sym (eq-eqb (f j) k (ap f (eqb-true j i same) ∙ is)) ∙ to))
    by_test false to false same h = ap (λ n. one_if false + n) h

pub times_in-append : (x y : List ℕ) (i : ℕ) → times_in (x ++ y) i ≡ times_in x i + times_in y i
unfolding times_in
times_in-append [] y i = omega arith
times_in-append (j ∷ x) y i = omega (arith, times_in-append x y i)

pub last_joined : (ts : List Operation) (w : ℕ) (x y : List ℕ) → last_word ts w (x ++ y) ≡ last_word ts (last_word ts w x) y
unfolding last_word
last_joined ts w [] y = refl
last_joined ts w (i ∷ x) y = last_joined ts (next (at ts i) w) x y

pub play_joined : (ts : List Operation) (w : ℕ) (x y : List ℕ) → Play ts w x → Play ts (last_word ts w x) y → Play ts w (x ++ y)
unfolding Play last_word
play_joined ts w [] y h k = k
play_joined ts w (i ∷ x) y h k = (h.0, h.1, play_joined ts (next (at ts i) w) x y h.2 k)

pub play_parted : (ts : List Operation) (w : ℕ) (x y : List ℕ) → Play ts w (x ++ y) → Play ts w x × Play ts (last_word ts w x) y
unfolding Play last_word
play_parted ts w [] y h = (tt, h)
play_parted ts w (i ∷ x) y h = let rest = play_parted ts (next (at ts i) w) x y h.2 in ((h.0, h.1, rest.0), rest.1)

pub in_time_joined : (ts : List Operation) (x y : List ℕ) → IsInTime ts x → IsInTime ts y → All (λ i. All (λ j. (at ts i).start ≤ (at ts j).end) y) x
    → IsInTime ts (x ++ y)
unfolding IsInTime
in_time_joined ts [] y h k cross = k
in_time_joined ts (i ∷ x) y h k cross = (
  All-append (λ j. (at ts i).start ≤ (at ts j).end) x y h.0 (All-head (λ l. All (λ j. (at ts l).start ≤ (at ts j).end) y) i x cross),
  in_time_joined ts x y h.1 k (All-tail (λ l. All (λ j. (at ts l).start ≤ (at ts j).end) y) i x cross),
)
