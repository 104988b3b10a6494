-- bins added to counts
use Rattle.std.specs.Prelude.{◌≡◌, ℕ, ◌+◌, ◌==◌, ◌<◌, List, count_by, length, min, slice_index}
use Rattle.chi_cover.specs.declared.bin.Bin.{Bin}
use Rattle.chi_cover.specs.Counts.{most}
use Rattle.chi_cover.specs.Numbers.{number_of}

-- There are as many counts as before, and each is what it was, and one more for each of these bins that has its number.
pub record AreAdded (bins : List Bin) (old new : List ℕ) : Type 0 where
  pub long : length new ≡ length old
  pub each : (n : ℕ) → n < length old → slice_index new n ≡ min (slice_index old n + count_by (λ b. number_of b == n) bins) most
