-- one byte more of a write
use Rattle.std.proofs.Common.{◌≡◌, ℕ, zero, suc, ◌+◌, List, ◌++◌, sym, ap, ◌∙◌, append_assoc, append-nil, arith}
use Rattle.chi_excerpt.specs.Operands.{enabled_byte, enabled_text}

pub enabled_more : (lanes : List ℕ) (enables lane n : ℕ) → enabled_text lanes enables lane (n + 1) ≡ enabled_text lanes enables lane n ++ enabled_byte lanes enables (lane + n)
unfolding enabled_text
enabled_more lanes enables lane n =
    let next : n + 1 ≡ suc n = omega arith in
    ap (enabled_text lanes enables lane) next ∙ one_more lanes enables lane n
  where
    one_more : (lanes : List ℕ) (enables lane n : ℕ) → enabled_text lanes enables lane (suc n) ≡ enabled_text lanes enables lane n ++ enabled_byte lanes enables (lane + n)
    one_more lanes enables lane zero = let same : lane ≡ lane + zero = omega arith in append-nil (enabled_byte lanes enables lane) ∙ ap (enabled_byte lanes enables) same
    one_more lanes enables lane (suc n) =
        let next : lane + 1 + n ≡ lane + suc n = omega arith in
        ap (λ l. enabled_byte lanes enables lane ++ l) (one_more lanes enables (lane + 1) n ∙ ap (λ i. enabled_text lanes enables (lane + 1) n ++ enabled_byte lanes enables i) next)
        ∙ sym (append_assoc (enabled_byte lanes enables lane) (enabled_text lanes enables (lane + 1) n) (enabled_byte lanes enables (lane + suc n)))
