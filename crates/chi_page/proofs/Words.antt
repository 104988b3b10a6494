-- the word after one operation more
use Rattle.std.proofs.Common.{◌≡◌, ℕ, zero, suc, ◌+◌, ◌<◌, List, [], ◌∷◌, length, get_or, take, refl, ap, ◌∙◌, add-one, arith}
use Rattle.chi_trace.specs.declared.operation.Operation.{Operation}
use Rattle.chi_trace.specs.Explains.{at}
use Rattle.chi_trace.specs.Granules.{last_word, next}
use Rattle.chi_page.specs.Granules.{step_json}

-- steps with the same words are the same
pub step_same : (place before before' after after' : ℕ) → before ≡ before' → after ≡ after' → step_json place before after ≡ step_json place before' after'
step_same place before before' after after' one other = ap (λ (w : ℕ). step_json place w after) one ∙ ap (step_json place before') other

pub last_word_more : (ops : List Operation) (word : ℕ) (order : List ℕ) (n : ℕ) → n < length order
    → last_word ops word (take (n + 1) order) ≡ next (at ops (get_or order n 0)) (last_word ops word (take n order))
unfolding last_word
last_word_more ops word order n under = rw (add-one n) (go word order n under)
  where
    go : (word : ℕ) (order : List ℕ) (n : ℕ) → n < length order
        → last_word ops word (take (suc n) order) ≡ next (at ops (get_or order n 0)) (last_word ops word (take n order))
    go word [] n under = absurd (omega arith)
    go word (i ∷ order) zero under = refl
    go word (i ∷ order) (suc n) under = go (next (at ops i) word) order n (omega arith)
