-- sets of requester numbers
use Rattle.std.proofs.Common.{◌≡◌, ℕ, true, not, ◌==◌}
use Rattle.std.proofs.lemmas.Bool.{and_parts}
use Rattle.chi_history.specs.NumberSets.{Held, without}

-- what a set has after a number was taken out, it had
pub without-held : (src : ℕ) (held : Held) (r : ℕ) → without src held r ≡ true → held r ≡ true
without-held src held r h = (and_parts (held r) (not (r == src)) h).0
