-- one text more
use Rattle.std.proofs.Common.{◌≡◌, ℕ, ◌+◌, List, ◌++◌, append_assoc, add-one, ap, ◌∙◌}
use Rattle.chi_page.specs.Listed.{before, listed}

pub listed_more : (between : List ℕ) (text : ℕ → List ℕ) (start : List ℕ) (n : ℕ) (so_far middle last : List ℕ) → so_far ≡ start ++ listed between text n
    → middle ≡ so_far ++ before between n → last ≡ middle ++ text n → last ≡ start ++ listed between text (n + 1)
unfolding listed
listed_more between text start n so_far middle last is first next =
    rw (add-one n)
    (next ∙ ap (λ l. l ++ text n) (first ∙ ap (λ l. l ++ before between n) is)
    ∙ ap (λ l. l ++ text n) (append_assoc start (listed between text n) (before between n))
    ∙ append_assoc start (listed between text n ++ before between n) (text n)
    ∙ ap (λ l. start ++ l) (append_assoc (listed between text n) (before between n) (text n)))
