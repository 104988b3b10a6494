-- histories put together and taken apart
use Rattle.std.proofs.Common.{◌≡◌, ℕ, ◌+◌, ◌<◌, Bool, true, false, ◌==◌, cond, List, [], ◌∷◌, ◌++◌, refl, sym, ap, ◌∙◌, true≢false, eqb-true, arith, ◌⊎◌, inl, inr}
use Rattle.chi_lanes.specs.After.{after}
use Rattle.chi_lanes.specs.Memory.{Memory}
use Rattle.chi_history.specs.declared.entry.Entry.{Entry}
use Rattle.chi_history.specs.declared.opening.Opening.{Opening}
use Rattle.chi_history.specs.NumberSets.{Held, nobody}
use Rattle.chi_history.specs.History.{end_from, IsLegalEntry, IsLegalFrom, IsFreeOf, of, hits_from}

-- the memory after two histories, one after another
pub end_from-append : (m : Memory) (xs ys : List Entry) → end_from m (xs ++ ys) ≡ end_from (end_from m xs) ys
unfolding end_from
end_from-append m [] ys = refl
end_from-append m (x ∷ xs) ys = end_from-append (after x.access m) xs ys

-- the front of a legal history is legal
pub legal-front : (o : Opening) (m : Memory) (xs ys : List Entry) → IsLegalFrom o m (xs ++ ys) → IsLegalFrom o m xs
unfolding end_from IsLegalFrom
legal-front o m [] ys whole = tt
legal-front o m (x ∷ xs) ys whole = (whole.0, legal-front o (after x.access m) xs ys whole.1)

-- the rest of a legal history is legal from the memory at its start
pub legal-back : (o : Opening) (m : Memory) (xs ys : List Entry) → IsLegalFrom o m (xs ++ ys) → IsLegalFrom o (end_from m xs) ys
unfolding end_from IsLegalFrom
legal-back o m [] ys whole = whole
legal-back o m (x ∷ xs) ys whole = legal-back o (after x.access m) xs ys whole.1

-- what a legal history of one entry says of it
pub legal_entry : (o : Opening) (m : Memory) (e : Entry) → IsLegalFrom o m (e ∷ []) → IsLegalEntry o m e
unfolding IsLegalFrom
legal_entry o m e legal = legal.0

pub free-append : (held : Held) (xs ys : List Entry) → IsFreeOf held xs → IsFreeOf held ys → IsFreeOf held (xs ++ ys)
unfolding IsFreeOf
free-append held [] ys first second = second
free-append held (x ∷ xs) ys first second = (first.0, free-append held xs ys first.1 second)

pub free-front : (held : Held) (xs ys : List Entry) → IsFreeOf held (xs ++ ys) → IsFreeOf held xs
unfolding IsFreeOf
free-front held [] ys whole = tt
free-front held (x ∷ xs) ys whole = (whole.0, free-front held xs ys whole.1)

-- what contains no entry of a set contains none of a smaller one
pub free-within : (held other : Held) (xs : List Entry) → ((r : ℕ) → other r ≡ true → held r ≡ true) → IsFreeOf held xs → IsFreeOf other xs
unfolding IsFreeOf
free-within held other [] within free = tt
free-within held other (x ∷ xs) within free = (not_in (other x.src) refl, free-within held other xs within free.1)
  where
    not_in : (b : Bool) → other x.src ≡ b → other x.src ≡ false
    not_in true is = absurd (true≢false (sym (within x.src is) ∙ free.0))
    not_in false is = is

-- a legal history that contains no entry of any requester is empty
pub free-all : (o : Opening) (m : Memory) (held : Held) (xs : List Entry) → ((r : ℕ) → r < o.requesters → held r ≡ true)
    → IsLegalFrom o m xs → IsFreeOf held xs → xs ≡ []
unfolding IsFreeOf IsLegalFrom
free-all o m held [] all legal free = refl
free-all o m held (x ∷ xs) all legal free = absurd (true≢false (sym (all x.src legal.0.requester) ∙ free.0))

pub of-append : (xs ys : List Entry) (r : ℕ) → of (xs ++ ys) r ≡ of xs r ++ of ys r
unfolding of
of-append [] ys r = refl
of-append (x ∷ xs) ys r = by_test (x.src == r) (of-append xs ys r)
  where
    by_test : (b : Bool) → of (xs ++ ys) r ≡ of xs r ++ of ys r
        → cond b (x ∷ of (xs ++ ys) r) (of (xs ++ ys) r) ≡ cond b (x ∷ of xs r) (of xs r) ++ of ys r
    by_test true rest = ap (λ (es : List Entry). x ∷ es) rest
    by_test false rest = rest

-- a history that contains no entry of a set has none of a number in it
pub of-free : (held : Held) (xs : List Entry) (r : ℕ) → held r ≡ true → IsFreeOf held xs → of xs r ≡ []
unfolding of IsFreeOf
of-free held [] r in_it free = refl
of-free held (x ∷ xs) r in_it free = by_test (x.src == r) refl (of-free held xs r in_it free.1)
  where
    by_test : (b : Bool) → (x.src == r) ≡ b → of xs r ≡ [] → cond b (x ∷ of xs r) (of xs r) ≡ []
    by_test true is rest = absurd (true≢false (sym in_it ∙ (ap held (sym (eqb-true x.src r is)) ∙ free.0)))
    by_test false is rest = rest

-- hits over two histories, one after another
pub hits-append : (o : Opening) (m : Memory) (xs ys : List Entry) (g : ℕ) (held : Held)
    → hits_from o m (xs ++ ys) g held ≡ hits_from o m xs g held + hits_from o (end_from m xs) ys g held
unfolding hits_from end_from
hits-append o m [] ys g held = omega arith
hits-append o m (x ∷ xs) ys g held = let rest = hits-append o (after x.access m) xs ys g held in omega arith

-- a history that contains no entry of a set has the hits that are not of the set, and those of anybody
pub hits-free : (o : Opening) (m : Memory) (xs : List Entry) (g : ℕ) (held : Held) → IsFreeOf held xs
    → hits_from o m xs g nobody ≡ hits_from o m xs g held
unfolding hits_from IsFreeOf
hits-free o m [] g held free = refl
hits-free o m (x ∷ xs) g held free = rw (free.0, hits-free o (after x.access m) xs g held free.1) refl

-- of two histories that go on to the same one, one is a prefix of the other
pub longer : (xs r ys s : List Entry) → xs ++ r ≡ ys ++ s
    → ((t : List Entry) × (xs ++ t ≡ ys) × (t ++ s ≡ r)) ⊎ ((t : List Entry) × (ys ++ t ≡ xs) × (t ++ r ≡ s))
longer [] r ys s same = inl (ys, refl, sym same)
longer (x ∷ xs) r [] s same = inr (x ∷ xs, refl, same)
longer (x ∷ xs) r (y ∷ ys) s same = elim (longer xs r ys s rest) [
  | inl h ↦ inl (h.0, (λ i. (head i) ∷ (h.1 i)), h.2)
  | inr h ↦ inr (h.0, (λ i. (sym head i) ∷ (h.1 i)), h.2)
]
  where
    head : x ≡ y
    head = cc

    rest : xs ++ r ≡ ys ++ s
    rest = cc
