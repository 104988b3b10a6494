-- why a locked store is not opened
use Rattle.std.specs.Prelude.{ℕ, ◌<◌, ◌≤◌}
use Rattle.chi_history.specs.declared.opening.OpenFault.{OpenFault}
use Rattle.chi_history.specs.declared.opening.OpenFault.TheVariants.{RequesterCount, AttemptCount, Memory, NotOneLine}
use Rattle.chi_history.specs.Openings.{IsRequesterCount}

-- the granules are at most those of one line
abbrev pub IsWithinLine : ℕ → Type 0
IsWithinLine granules = granules ≤ 8

-- which fault these numbers may meet: out of memory comes last, and no tries are counted
abbrev pub IsLockFault : ℕ → ℕ → OpenFault → Type 0
IsLockFault granules requesters RequesterCount = ¬ IsRequesterCount requesters
IsLockFault granules requesters NotOneLine = IsRequesterCount requesters × (8 < granules)
IsLockFault granules requesters Memory = IsRequesterCount requesters × IsWithinLine granules
IsLockFault granules requesters AttemptCount = ⊥
