-- numbers that are told one after the other and never fall
use Rattle.std.proofs.Common.{◌≡◌, ℕ, zero, suc, ◌+◌, ◌<◌, ◌≤◌, refl, arith}

-- the next is no less than the last one, which is 0 before the first
pub next_no_less : (value : ℕ → ℕ) (count last i : ℕ) → (i ≡ 0 → last ≡ 0) → ((j : ℕ) → j + 1 ≡ i → value j ≡ last)
    → ((i j : ℕ) → i ≤ j → j < count → value i ≤ value j) → i < count → last ≤ value i
next_no_less value count last zero none told in_order below = omega (arith, none refl)
next_no_less value count last (suc j) none told in_order below = omega (arith, told j (omega arith), in_order j (suc j) (omega arith) below)
