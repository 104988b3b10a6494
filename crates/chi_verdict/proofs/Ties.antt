-- lists that do not fall by a key: what they have of each key says what they are
use Rattle.std.proofs.Common.{◌≡◌, ℕ, suc, ◌<◌, ◌≤◌, ◌==◌, nat_lt, not, ◌&&◌, Bool, true, false, cond, List, [], ◌∷◌, All, filter, map, refl, sym, ap, ◌∙◌, arith, eq-eqb, ne_eqb, get_or}
use Rattle.std.specs.List.Sorted.{IsNonDecreasingBy, IsStableByKey, ties}
use Rattle.std.specs.Ordering.{is_lt, nat_cmp}
use Rattle.std.proofs.lemmas.Bool.{ltb-false, ltb-true}
use Rattle.std.proofs.lemmas.Bool.Decides.{nat_tests}
use Rattle.std.proofs.lemmas.List.Elements.{All-head, All-tail, filter_agree}

-- a test that none passes keeps none
pub none_kept : {X : Type 0} (p : X → Bool) (xs : List X) → All (λ x. p x ≡ false) xs → filter p xs ≡ []
none_kept p [] h = refl
none_kept p (x ∷ xs) h =
    ap (λ b. cond b (x ∷ filter p xs) (filter p xs)) (All-head (λ y. p y ≡ false) x xs h) ∙ none_kept p xs (All-tail (λ y. p y ≡ false) x xs h)

-- two filters in either order keep the same
pub filters_swap : {X : Type 0} (p q : X → Bool) (xs : List X) → filter p (filter q xs) ≡ filter q (filter p xs)
filters_swap p q [] = refl
filters_swap p q (x ∷ xs) = by_test (p x) refl (q x) refl (filters_swap p q xs)
  where
    by_test : (a : Bool) → p x ≡ a → (b : Bool) → q x ≡ b → filter p (filter q xs) ≡ filter q (filter p xs)
        → filter p (cond b (x ∷ filter q xs) (filter q xs)) ≡ filter q (cond a (x ∷ filter p xs) (filter p xs))
    by_test true pass true kept rest = rw (pass, kept) (ap (λ zs. x ∷ zs) rest)
    by_test true pass false kept rest = rw kept rest
    by_test false pass true kept rest = rw pass rest
    by_test false pass false kept rest = rest

-- a filter of what a function makes is that of what it is made from
pub filter-map : {X Y : Type 0} (p : Y → Bool) (f : X → Y) (xs : List X) → filter p (map f xs) ≡ map f (filter (λ x. p (f x)) xs)
filter-map p f [] = refl
filter-map p f (x ∷ xs) = by_test (p (f x)) (filter-map p f xs)
  where
    by_test : (b : Bool) → filter p (map f xs) ≡ map f (filter (λ y. p (f y)) xs)
        → cond b (f x ∷ filter p (map f xs)) (filter p (map f xs)) ≡ map f (cond b (x ∷ filter (λ y. p (f y)) xs) (filter (λ y. p (f y)) xs))
    by_test true rest = ap (λ zs. f x ∷ zs) rest
    by_test false rest = rest

module _ {X : Type 0} (key : X → ℕ) where
  -- the two have the same key
  abbrev pub tied : X → X → Bool
  tied x y = key x == key y

  -- two lists have the same elements of each key, in the same order
  abbrev pub AgreeByKey : List X → List X → Type 0
  AgreeByKey xs ys = (z : X) → filter (tied z) xs ≡ filter (tied z) ys

  falls_not : (x : X) (xs : List X) → IsNonDecreasingBy key (x ∷ xs) → IsNonDecreasingBy key xs
  falls_not x xs h i j d le within = h (suc i) (suc j) d (omega arith) (omega arith)

  -- where a key occurs in a list, its first key is no greater
  first_least : (x y : X) (xs ys : List X) → IsNonDecreasingBy key (y ∷ ys) → filter (tied x) (y ∷ ys) ≡ x ∷ xs → key y ≤ key x
  first_least x y xs ys h kept = by_test (nat_lt (key x) (key y)) refl
    where
      by_test : (b : Bool) → nat_lt (key x) (key y) ≡ b → key y ≤ key x
      by_test true less = absurd (differ (sym kept ∙ none_kept (tied x) (y ∷ ys) above))
        where
          above : All (λ z. tied x z ≡ false) (y ∷ ys)
          above k d under =
              let first : key y ≤ key (get_or (y ∷ ys) k d) = h 0 k d (omega arith) under in
              let smaller : key x < key y = ltb-true (key x) (key y) less in
              ne_eqb (key x) (key (get_or (y ∷ ys) k d)) (λ same. omega (arith, first, smaller, same))

          differ : x ∷ xs ≡ [] → ⊥
          differ same = cc
      by_test false least = ltb-false (key x) (key y) least

  keeps : (z x : X) (xs : List X) (b : Bool) → tied z x ≡ b → filter (tied z) (x ∷ xs) ≡ cond b (x ∷ filter (tied z) xs) (filter (tied z) xs)
  keeps z x xs b same = ap (λ c. cond c (x ∷ filter (tied z) xs) (filter (tied z) xs)) same

  keeps_itself : (x : X) (xs : List X) → filter (tied x) (x ∷ xs) ≡ x ∷ filter (tied x) xs
  keeps_itself x xs = keeps x x xs true (eq-eqb (key x) (key x) refl)

  -- two such lists are one
  pub same_order : (xs ys : List X) → IsNonDecreasingBy key xs → IsNonDecreasingBy key ys → AgreeByKey xs ys → xs ≡ ys
  same_order [] [] h k agree = refl
  same_order [] (y ∷ ys) h k agree = let some : [] ≡ y ∷ filter (tied y) ys = agree y ∙ keeps_itself y ys in cc
  same_order (x ∷ xs) [] h k agree = let some : x ∷ filter (tied x) xs ≡ [] = sym (keeps_itself x xs) ∙ agree x in cc
  same_order (x ∷ xs) (y ∷ ys) h k agree =
      ap (λ z. z ∷ xs) first ∙ ap (λ zs. y ∷ zs) (same_order xs ys (falls_not x xs h) (falls_not y ys k) (λ z. rest_agree z (tied z x) refl))
    where
      first : x ≡ y
      first =
          let below : key y ≤ key x = first_least x y (filter (tied x) xs) ys k (sym (agree x) ∙ keeps_itself x xs) in
          let above : key x ≤ key y = first_least y x (filter (tied y) ys) xs h (agree y ∙ keeps_itself y ys) in
          let same : tied x y ≡ true = eq-eqb (key x) (key y) (omega arith) in
          let kept : x ∷ filter (tied x) xs ≡ y ∷ filter (tied x) ys = sym (keeps_itself x xs) ∙ (agree x ∙ keeps x y ys true same) in
          cc

      rest_agree : (z : X) (b : Bool) → tied z x ≡ b → filter (tied z) xs ≡ filter (tied z) ys
      rest_agree z true same =
          let kept : x ∷ filter (tied z) xs ≡ y ∷ filter (tied z) ys = sym (keeps z x xs true same) ∙ (agree z ∙ keeps z y ys true (ap (tied z) (sym first) ∙ same)) in
          cc
      rest_agree z false same = sym (keeps z x xs false same) ∙ (agree z ∙ keeps z y ys false (ap (tied z) (sym first) ∙ same))

-- neither number is less than the other
tie_is : (m n : ℕ) → (not (is_lt (nat_cmp m n)) && not (is_lt (nat_cmp n m))) ≡ (m == n)
tie_is m n = grind (arith, nat_tests)

-- what a stable sort by a number ensures
pub agree_by_key : {X : Type 0} (key : X → ℕ) (xs ys : List X) → IsStableByKey key nat_cmp xs ys → AgreeByKey key ys xs
agree_by_key {X} key xs ys stable z = sym (same ys) ∙ (stable z ∙ same xs)
  where
    same : (zs : List X) → filter (ties (λ x y. is_lt (nat_cmp (key x) (key y))) z) zs ≡ filter (tied key z) zs
    same = filter_agree (ties (λ x y. is_lt (nat_cmp (key x) (key y))) z) (tied key z) (λ x. tie_is (key z) (key x))
