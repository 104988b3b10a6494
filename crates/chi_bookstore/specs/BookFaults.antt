-- why a lock-free store is not opened
use Rattle.std.specs.Prelude.{ℕ, ◌≤◌}
use Rattle.chi_history.specs.declared.opening.OpenFault.{OpenFault}
use Rattle.chi_history.specs.declared.opening.OpenFault.TheVariants.{RequesterCount, AttemptCount, Memory, NotOneLine}
use Rattle.chi_history.specs.Openings.{IsRequesterCount}

-- the number of tries is 1 to 16
abbrev pub IsAttemptCount : ℕ → Type 0
IsAttemptCount n = (1 ≤ n) × (n ≤ 16)

-- which fault these numbers may meet: out of memory comes last, and every region is of one row
abbrev pub IsBookFault : ℕ → ℕ → OpenFault → Type 0
IsBookFault requesters attempts RequesterCount = ¬ IsRequesterCount requesters
IsBookFault requesters attempts AttemptCount = IsRequesterCount requesters × (¬ IsAttemptCount attempts)
IsBookFault requesters attempts Memory = IsRequesterCount requesters × IsAttemptCount attempts
IsBookFault requesters attempts NotOneLine = ⊥
