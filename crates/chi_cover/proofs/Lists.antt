-- lists that grow by one item
use Rattle.std.proofs.Common.{◌≡◌, ℕ, zero, suc, ◌+◌, ◌<◌, ◌≤◌, Bool, true, false, cond, List, [], ◌∷◌, ◌++◌, Err, Ok, OnOk, Result, append_assoc, append-nil, count_by, drop, filter, get_or, length, map, refl, true≢false, replicate, slice_index, sym, take, ap, ◌∙◌, arith, zero-add}
use Rattle.std.proofs.lemmas.List.{map-append, take-append-le, take_all, take_more}
use Rattle.std.proofs.lemmas.List.Elements.{filter-append}
use Rattle.std.proofs.lemmas.List.Sums.{sum_by-append, sum_by-cons}
use Rattle.std.specs.List.{range_with_len}

pub range_more : (a n : ℕ) → range_with_len a (n + 1) ≡ range_with_len a n ++ (a + n) ∷ []
range_more a n = let next : n + 1 ≡ suc n = omega arith in ap (range_with_len a) next ∙ one_more a n
  where
    one_more : (a n : ℕ) → range_with_len a (suc n) ≡ range_with_len a n ++ (a + n) ∷ []
    one_more a zero = let same : a ≡ a + zero = omega arith in ap (λ x. x ∷ []) same
    one_more a (suc n) =
        let next : a + 1 + n ≡ a + suc n = omega arith in
        ap (λ xs. a ∷ xs) (one_more (a + 1) n ∙ ap (λ x. range_with_len (a + 1) n ++ x ∷ []) next)

pub count_more : (p : ℕ → Bool) (a n before after : ℕ) (test : Bool) → test ≡ p (a + n) → before ≡ count_by p (range_with_len a n) → after ≡ before + cond test 1 0
    → after ≡ count_by p (range_with_len a (n + 1))
count_more p a n before after test is so_far grown =
    let last : cond test 1 0 ≡ count_by p ((a + n) ∷ []) = ap (λ t. cond t 1 0) is ∙ sym (zero-add (cond (p (a + n)) 1 0)) in
    grown ∙ (ap (λ k. k + cond test 1 0) so_far ∙ (ap (λ k. count_by p (range_with_len a n) + k) last
    ∙ (sym (sum_by-append (λ (x : ℕ). cond (p x) 1 0) (range_with_len a n) ((a + n) ∷ [])) ∙ ap (count_by p) (sym (range_more a n)))))

-- one number more, where it passes a test
pub filter_more : (p : ℕ → Bool) (n : ℕ) → filter p (range_with_len 0 (n + 1)) ≡ filter p (range_with_len 0 n) ++ cond (p n) (n ∷ []) []
filter_more p n =
    ap (filter p) (range_more 0 n) ∙ (filter-append p (range_with_len 0 n) ((0 + n) ∷ []) ∙ ap (λ k. filter p (range_with_len 0 n) ++ filter p (k ∷ [])) (zero-add n))

-- a list that grows by one item after the other
pub item_more : {X Y : Type 0} (f : X → Y) (start : List Y) (xs : List X) (i : ℕ) (d : X) (before after : List Y) → i < length xs
    → before ≡ start ++ map f (take i xs) → after ≡ before ++ f (get_or xs i d) ∷ [] → after ≡ start ++ map f (take (i + 1) xs)
item_more f start xs i d before after below so_far last =
    let x = get_or xs i d in
    last ∙ (ap (λ l. l ++ f x ∷ []) so_far ∙ (append_assoc start (map f (take i xs)) (f x ∷ [])
    ∙ ap (λ l. start ++ l) (sym (map-append f (take i xs) (x ∷ [])) ∙ ap (map f) (sym (take_more xs i d below)))))

pub all_items : {X Y : Type 0} (f : X → Y) (start : List Y) (xs : List X) (i : ℕ) (whole : List Y) → length xs ≤ i
    → whole ≡ start ++ map f (take i xs) → whole ≡ start ++ map f xs
all_items f start xs i whole past so_far = so_far ∙ ap (λ l. start ++ map f l) (take_all i xs past)

-- what is made of the first numbers that pass a test: the next one passes it
pub kept_more : {Y : Type 0} (g : List ℕ → List Y) (h start : List Y) (p : ℕ → Bool) (n : ℕ) (before after : List Y) → g (filter p (range_with_len 0 n) ++ n ∷ []) ≡ g (filter p (range_with_len 0 n)) ++ h
    → p n ≡ true → before ≡ start ++ g (filter p (range_with_len 0 n)) → after ≡ before ++ h → after ≡ start ++ g (filter p (range_with_len 0 (n + 1)))
kept_more g h start p n before after grows passes so_far part =
    part ∙ (ap (λ l. l ++ h) so_far ∙ (append_assoc start (g (filter p (range_with_len 0 n))) h
    ∙ ap (λ l. start ++ l) (sym grows ∙ ap g (sym (filter_more p n ∙ ap (λ t. filter p (range_with_len 0 n) ++ cond t (n ∷ []) []) passes)))))

-- or it does not
pub kept_same : {Y : Type 0} (g : List ℕ → List Y) (start : List Y) (p : ℕ → Bool) (n : ℕ) (before after : List Y)
    → p n ≡ false → before ≡ start ++ g (filter p (range_with_len 0 n)) → after ≡ before → after ≡ start ++ g (filter p (range_with_len 0 (n + 1)))
kept_same g start p n before after fails so_far same =
    same ∙ (so_far ∙ ap (λ l. start ++ g l) (sym (filter_more p n ∙ (ap (λ t. filter p (range_with_len 0 n) ++ cond t (n ∷ []) []) fails ∙ append-nil (filter p (range_with_len 0 n))))))

-- what holds where a step succeeds
pub on_ok : {E P Q : Type 0} (r : Result (Unit {0}) E) → OnOk r P → (P → Q) → OnOk r Q
on_ok (Ok u) p f = f p
on_ok (Err e) p f = tt

-- a slice that was written back to its list
pub written : {Y : Type 0} (n : ℕ) (xs ys : List Y) → length xs ≡ n → take n (xs ++ drop (length xs) ys) ≡ xs
written n xs ys long =
    let inside : n ≤ length xs = omega arith in
    let whole : length xs ≤ n = omega arith in
    take-append-le n xs (drop (length xs) ys) inside ∙ take_all n xs whole

pub zeros : (n i : ℕ) → slice_index (replicate n 0) i ≡ 0
zeros zero i = refl
zeros (suc n) zero = refl
zeros (suc n) (suc i) = zeros n i

-- a filter after one that keeps all that it keeps
pub filter_twice : (p q : ℕ → Bool) → ((x : ℕ) → q x ≡ true → p x ≡ true) → (xs : List ℕ) → filter q (filter p xs) ≡ filter q xs
filter_twice p q implies [] = refl
filter_twice p q implies (x ∷ xs) = by_tests (p x) refl (q x) refl (filter_twice p q implies xs)
  where
    by_tests : (a : Bool) → p x ≡ a → (b : Bool) → q x ≡ b → filter q (filter p xs) ≡ filter q xs
        → filter q (cond a (x ∷ filter p xs) (filter p xs)) ≡ cond b (x ∷ filter q xs) (filter q xs)
    by_tests true kept true both rest = ap (λ t. cond t (x ∷ filter q (filter p xs)) (filter q (filter p xs))) both ∙ ap (λ l. x ∷ l) rest
    by_tests true kept false left rest = ap (λ t. cond t (x ∷ filter q (filter p xs)) (filter q (filter p xs))) left ∙ rest
    by_tests false left true both rest = absurd (true≢false (sym (implies x both) ∙ left))
    by_tests false left false other rest = rest

pub counted : {A B : Type 0} (f : A → B) (p : B → Bool) (xs : List A) → count_by p (map f xs) ≡ count_by (λ x. p (f x)) xs
counted f p [] = refl
counted f p (x ∷ xs) =
    sum_by-cons (λ y. cond (p y) 1 0) (f x) (map f xs) ∙ (ap (λ n. cond (p (f x)) 1 0 + n) (counted f p xs) ∙ sym (sum_by-cons (λ y. cond (p (f y)) 1 0) x xs))
