-- the lines of how many bins each input added, one after the other
use Rattle.std.proofs.Common.{◌≡◌, ℕ, ◌+◌, ◌<◌, ◌≤◌, List, [], ◌∷◌, ◌++◌, append_assoc, append-nil, drop, get_or, length, map, refl, sym, ap, ◌∙◌, arith}
use Rattle.std.specs.Borrow.{Bor}
use Rattle.std.proofs.lemmas.List.{at_drop_more, drop_all}
use Rattle.chi_cover.specs.AddedLines.{added_line, each_added}

abbrev texts : List (Bor (List ℕ)) → List (List ℕ)
texts paths = map (λ path. path.now) paths

-- one line more
pub line_more : (paths : List (Bor (List ℕ))) (i : ℕ) (d : Bor (List ℕ)) (number : ℕ) (rest others before after whole : List ℕ) → i < length paths → rest ≡ number ∷ others
    → before ++ each_added rest (texts (drop i paths)) ≡ whole → after ≡ before ++ added_line (get_or paths i d).now number → after ++ each_added others (texts (drop (i + 1) paths)) ≡ whole
unfolding each_added
line_more paths i d number rest others before after whole below first so_far line =
    let later = each_added others (texts (drop (i + 1) paths)) in
    let next : each_added rest (texts (drop i paths)) ≡ added_line (get_or paths i d).now number ++ later =
    ap (λ (r : List ℕ). each_added r (texts (drop i paths))) first ∙ at_drop_more (λ (l : List (Bor (List ℕ))). each_added (number ∷ others) (texts l)) paths i d below in
    ap (λ (l : List ℕ). l ++ later) line ∙ (append_assoc before (added_line (get_or paths i d).now number) later ∙ (ap (λ (l : List ℕ). before ++ l) (sym next) ∙ so_far))

-- no number is left
pub no_number : (paths : List (List ℕ)) (rest before whole : List ℕ) → length rest ≡ 0 → before ++ each_added rest paths ≡ whole → before ≡ whole
unfolding each_added
no_number paths [] before whole none so_far = sym (append-nil before) ∙ so_far
no_number paths (number ∷ rest) before whole none so_far = absurd (omega arith)

-- numbers of no path
of_none : (rest : List ℕ) → each_added rest [] ≡ []
unfolding each_added
of_none [] = refl
of_none (number ∷ rest) = refl

-- no path is left
pub no_path : (paths : List (Bor (List ℕ))) (i : ℕ) (rest before whole : List ℕ) → length paths ≤ i → before ++ each_added rest (texts (drop i paths)) ≡ whole → before ≡ whole
no_path paths i rest before whole past so_far =
    let none : each_added rest (texts (drop i paths)) ≡ [] = ap (λ (l : List (Bor (List ℕ))). each_added rest (texts l)) (drop_all i paths past) ∙ of_none rest in
    sym (append-nil before) ∙ (ap (λ (l : List ℕ). before ++ l) (sym none) ∙ so_far)
