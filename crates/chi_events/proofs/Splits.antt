-- lists that are told in three parts, of which the middle one changes
use Rattle.std.proofs.Common.{◌≡◌, suc, Bool, true, List, [], ◌∷◌, ◌++◌, map, filter, All, Option, Some, None, option_to_list, IsPermutation, append-nil, refl, sym, ap, subst, ◌∙◌, inl, inr, arith}
use Rattle.std.specs.List.{AllPairs}
use Rattle.std.proofs.lemmas.Bool.{cases_Bool}
use Rattle.std.proofs.lemmas.List.Elements.{All-cons, All-head, All-tail}
use Rattle.std.proofs.lemmas.List.Kept.{AllPairs-cons}
use Rattle.std.proofs.lemmas.List.Sorted.{IsPermutation-append_comm, IsPermutation-append_right, IsPermutation-middle, IsPermutation-trans}

-- an element of a list that passes a test, and what the test and the map make of those before and after it
pub record Split {T U : Type 0} (p : T → Bool) (f : T → U) (ts : List T) (a : List U) (u : U) (b : List U) : Type 0 where
  pub before : List T
  pub item : T
  pub after : List T
  pub is : ts ≡ before ++ item ∷ after
  pub passes : p item ≡ true
  pub same : f item ≡ u
  pub first : map f (filter p before) ≡ a
  pub rest : map f (filter p after) ≡ b

module _ {T U : Type 0} (p : T → Bool) (f : T → U) where
  split_more : (x : T) (ts : List T) (a c : List U) (u : U) (b : List U) → Split p f ts a u b
      → ((l : List T) → map f (filter p l) ≡ a → map f (filter p (x ∷ l)) ≡ c) → Split p f (x ∷ ts) c u b
  split_more x ts a c u b s more = record {
    before = x ∷ s.before;
    item = s.item;
    after = s.after;
    is = ap (λ (l : List T). x ∷ l) s.is;
    passes = s.passes;
    same = s.same;
    first = more s.before s.first;
    rest = s.rest;
  }

  pub split_at : (ts : List T) (a : List U) (u : U) (b : List U) → map f (filter p ts) ≡ a ++ u ∷ b → Split p f ts a u b
  split_at [] [] u b e = cc
  split_at [] (y ∷ a) u b e = cc
  split_at (x ∷ ts) a u b e = elim (cases_Bool (p x)) [
    | inl is ↦ by_first a (split_at ts) is (rw is at e)
    | inr fails ↦ split_more x ts a a u b (split_at ts a u b (rw fails at e)) (λ l is. rw fails is)
  ]
    where
      by_first : (a : List U) → ((a : List U) (u : U) (b : List U) → map f (filter p ts) ≡ a ++ u ∷ b → Split p f ts a u b) → p x ≡ true
          → f x ∷ map f (filter p ts) ≡ a ++ u ∷ b → Split p f (x ∷ ts) a u b
      by_first [] more holds e = record { before = []; item = x; after = ts; is = refl; passes = holds; same = cc; first = refl; rest = cc }
      by_first (y ∷ a) more holds e =
          let head : f x ≡ y = cc in
          let tail : map f (filter p ts) ≡ a ++ u ∷ b = cc in
          split_more x ts a (y ∷ a) u b (more a u b tail) (λ l is. rw holds (ap (λ r. f x ∷ r) is ∙ ap (λ z. z ∷ a) head))

module _ {X : Type 0} (P : X → Type 0) where
  pub all_item : (xs : List X) (x : X) (ys : List X) → All P (xs ++ x ∷ ys) → P x
  all_item [] x ys all = All-head P x ys all
  all_item (z ∷ xs) x ys all = all_item xs x ys (All-tail P z (xs ++ x ∷ ys) all)

  pub all_changed : (xs : List X) (x y : X) (ys : List X) → All P (xs ++ x ∷ ys) → P y → All P (xs ++ y ∷ ys)
  all_changed [] x y ys all here = All-cons P y ys here (All-tail P x ys all)
  all_changed (z ∷ xs) x y ys all here =
      All-cons P z (xs ++ y ∷ ys) (All-head P z (xs ++ x ∷ ys) all) (all_changed xs x y ys (All-tail P z (xs ++ x ∷ ys) all) here)

module _ {X : Type 0} (R : X → X → Type 0) where
  pairs_head : (x : X) (xs : List X) → AllPairs R (x ∷ xs) → All (R x) xs
  pairs_head x xs all k d below = all 0 (suc k) d (omega arith) (omega arith)

  pairs_tail : (x : X) (xs : List X) → AllPairs R (x ∷ xs) → AllPairs R xs
  pairs_tail x xs all i j d less below = all (suc i) (suc j) d (omega arith) (omega arith)

  pub pairs_item : (xs : List X) (x : X) (ys : List X) → AllPairs R (xs ++ x ∷ ys) → All (R x) ys
  pairs_item [] x ys all = pairs_head x ys all
  pairs_item (z ∷ xs) x ys all = pairs_item xs x ys (pairs_tail z (xs ++ x ∷ ys) all)

  pub pairs_changed : (xs : List X) (x y : X) (ys : List X) → AllPairs R (xs ++ x ∷ ys) → ((z : X) → R z x → R z y) → All (R y) ys → AllPairs R (xs ++ y ∷ ys)
  pairs_changed [] x y ys all to from = AllPairs-cons R y ys from (pairs_tail x ys all)
  pairs_changed (z ∷ xs) x y ys all to from =
      let head = pairs_head z (xs ++ x ∷ ys) all in
      AllPairs-cons R z (xs ++ y ∷ ys) (all_changed (R z) xs x y ys head (to z (all_item (R z) xs x ys head)))
      (pairs_changed xs x y ys (pairs_tail z (xs ++ x ∷ ys) all) to from)

-- one element more in the middle is one more at the end
pub middle_last : {X : Type 0} (xs : List X) (o : Option X) (ys zs : List X) → IsPermutation (xs ++ ys) zs → IsPermutation (xs ++ (option_to_list o ++ ys)) (zs ++ option_to_list o)
middle_last xs None ys zs same = subst (IsPermutation (xs ++ ys)) (sym (append-nil zs)) same
middle_last {X} xs (Some x) ys zs same =
    IsPermutation-trans (xs ++ x ∷ ys) (x ∷ (xs ++ ys)) (zs ++ x ∷ []) (IsPermutation-middle xs x ys)
    (IsPermutation-trans (x ∷ (xs ++ ys)) (x ∷ zs) (zs ++ x ∷ []) (IsPermutation-append_right (x ∷ []) (xs ++ ys) zs same) (IsPermutation-append_comm (x ∷ []) zs))
