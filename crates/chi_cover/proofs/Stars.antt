-- two stars in a row are as one
use Rattle.std.proofs.Common.{◌≡◌, ◌||◌, ℕ, Bool, true, false, List, [], ◌∷◌, refl, ap, subst, sym, true≢false, ◌∙◌}
use Rattle.std.proofs.lemmas.Bool.{eqb-true}
use Rattle.chi_cover.specs.Plan.{fits, has_rest, is_starred}

again : (a b : Bool) → (a || b) || b ≡ a || b
again true b = refl
again false true = refl
again false false = refl

rest_twice : (test : List ℕ → Bool) (name : List ℕ) → has_rest (has_rest test) name ≡ has_rest test name
rest_twice test [] = refl
rest_twice test (c ∷ cs) = ap (λ rest. (test (c ∷ cs) || has_rest test cs) || rest) (rest_twice test cs) ∙ again (test (c ∷ cs)) (has_rest test cs)

both : (pattern name : List ℕ) → fits (42 ∷ 42 ∷ pattern) name ≡ fits (42 ∷ pattern) name
unfolding fits
both pattern name = rest_twice (fits pattern) name

pub star_again : (first : ℕ) (others name : List ℕ) → first ≡ 42 → is_starred others ≡ true → fits (first ∷ others) name ≡ fits others name
star_again first [] name here next = absurd (true≢false (sym next))
star_again first (c ∷ pattern) name here next =
    let then : c ≡ 42 = eqb-true c 42 next in
    subst (λ (a : ℕ). fits (a ∷ c ∷ pattern) name ≡ fits (c ∷ pattern) name) (sym here)
    (subst (λ (a : ℕ). fits (42 ∷ a ∷ pattern) name ≡ fits (a ∷ pattern) name) (sym then) (both pattern name))
