-- the latest of times, with one more
use Rattle.std.proofs.Common.{◌≡◌, ℕ, ◌≤◌, List, [], ◌∷◌, ◌++◌, arith}
use Rattle.std.specs.Prelude.{max}
use Rattle.chi_watch.specs.Watches.{latest_of}

latest_push : (times : List ℕ) (time : ℕ) → latest_of (times ++ time ∷ []) ≡ max (latest_of times) time
latest_push [] time = omega arith
latest_push (first ∷ times) time = let rest = latest_push times time in omega (arith, rest)

-- a later time is the latest of these and of some others
pub latest_first : (times others : List ℕ) (time : ℕ) → max (latest_of times) (latest_of others) ≤ time → max (latest_of (times ++ time ∷ [])) (latest_of others) ≡ time
latest_first times others time later = let more = latest_push times time in omega (arith, more, later)

pub latest_second : (times others : List ℕ) (time : ℕ) → max (latest_of times) (latest_of others) ≤ time → max (latest_of times) (latest_of (others ++ time ∷ [])) ≡ time
latest_second times others time later = let more = latest_push others time in omega (arith, more, later)
