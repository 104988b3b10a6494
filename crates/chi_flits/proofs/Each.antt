-- what holds of each of a row of numbers
use Rattle.std.specs.Prelude.{◌<◌, ◌⊎◌, if◌then◌else◌, find, is_some, option_and_then}
use Rattle.std.specs.List.{list_all, list_any, range_with_len}
use Rattle.std.proofs.Common.{◌≡◌, ℕ, zero, suc, ◌+◌, ◌≤◌, Bool, true, false, Option, Some, None, inl, inr, refl, sym, ap, subst, ◌∙◌, arith}
use Rattle.std.proofs.lemmas.Bool.{and_parts, cases_eq, or_parts}
use Rattle.std.proofs.lemmas.Option.{none-some}

-- a test that none passes, and one that all pass
pub any_at : (p : ℕ → Bool) (a n : ℕ) → list_any p (range_with_len a n) ≡ false → (i : ℕ) → a ≤ i → i < a + n → p i ≡ false
any_at p a zero none i from to = absurd (omega arith)
any_at p a (suc n) none i from to =
    let parts = or_parts (p a) (list_any p (range_with_len (a + 1) n)) none in
    by_case (cases_eq i a) parts.0 (λ apart. any_at p (a + 1) n parts.1 i (omega arith) (omega arith))
  where
    by_case : (i ≡ a) ⊎ (i ≡ a → ⊥) → p a ≡ false → ((i ≡ a → ⊥) → p i ≡ false) → p i ≡ false
    by_case (inl same) here later = ap p same ∙ here
    by_case (inr apart) here later = later apart

pub all_at : (p : ℕ → Bool) (a n : ℕ) → list_all p (range_with_len a n) ≡ true → (i : ℕ) → a ≤ i → i < a + n → p i ≡ true
all_at p a zero all i from to = absurd (omega arith)
all_at p a (suc n) all i from to =
    let parts = and_parts (p a) (list_all p (range_with_len (a + 1) n)) all in
    by_case (cases_eq i a) parts.0 (λ apart. all_at p (a + 1) n parts.1 i (omega arith) (omega arith))
  where
    by_case : (i ≡ a) ⊎ (i ≡ a → ⊥) → p a ≡ true → ((i ≡ a → ⊥) → p i ≡ true) → p i ≡ true
    by_case (inl same) here later = ap p same ∙ here
    by_case (inr apart) here later = later apart

-- a search that finds nothing of any
pub none_found : {X : Type 0} (f : ℕ → Option X) (a n : ℕ) → option_and_then f (find (λ i. is_some (f i)) (range_with_len a n)) ≡ None → (i : ℕ) → a ≤ i → i < a + n → f i ≡ None
none_found {X} f a zero none i from to = absurd (omega arith)
none_found {X} f a (suc n) none i from to = by_first (f a) refl (cases_eq i a) (λ rest apart. none_found f (a + 1) n rest i (omega arith) (omega arith))
  where
    by_first : (o : Option X) → f a ≡ o → (i ≡ a) ⊎ (i ≡ a → ⊥)
        → (option_and_then f (find (λ i. is_some (f i)) (range_with_len (a + 1) n)) ≡ None → (i ≡ a → ⊥) → f i ≡ None) → f i ≡ None
    by_first None is (inl same) later = ap f same ∙ is
    by_first None is (inr apart) later =
        later (subst (λ (o : Option X). option_and_then f (if is_some o then Some a else find (λ i. is_some (f i)) (range_with_len (a + 1) n)) ≡ None) is none) apart
    by_first (Some x) is case later =
        absurd (none-some x (sym (sym is ∙ subst (λ (o : Option X). option_and_then f (if is_some o then Some a else find (λ i. is_some (f i)) (range_with_len (a + 1) n)) ≡ None) is none)))

pub all_of : (p : ℕ → Bool) (a n : ℕ) → ((i : ℕ) → a ≤ i → i < a + n → p i ≡ true) → list_all p (range_with_len a n) ≡ true
all_of p a zero holds = refl
all_of p a (suc n) holds = rw (holds a (omega arith) (omega arith)) (all_of p (a + 1) n (λ i from to. holds i (omega arith) (omega arith)))
