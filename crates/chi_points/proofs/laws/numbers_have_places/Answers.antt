-- eight numbers follow the eightfold of a place, and none is cut off
use Rattle.std.proofs.Common.{◌≡◌, ◌+◌, ◌*◌, ◌/◌, ◌%◌, ◌^◌, ◌<◌, ℕ, Some, ap, arith}
use Rattle.chi_points.proofs.laws.numbers_have_places.Goals as goal

place_in : (place i : ℕ) → place < 2 ^ 61 → i < 8 → (8 * place + i) % 2 ^ 64 / 8 ≡ place
place_in place i few below = omega arith

pub returns : goal.returns
returns c q place i few below = ap Some (place_in place i few below)
