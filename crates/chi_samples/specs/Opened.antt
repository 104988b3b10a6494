-- what a test of a home begins with
use Rattle.std.specs.Prelude.{◌≡◌}
use Rattle.chi_history.specs.declared.opening.Opening.{Opening}
use Rattle.chi_history.specs.NumberSets.{Held, below}

-- a seat of the home's own holds the number of each of eight requesters, and the memory is eight granules
abbrev pub IsOfEight : Type 0 → Held → Opening → Type 0
IsOfEight own held opening =
    own × (held ≡ below opening.requesters) × (opening.requesters ≡ 8) × (opening.region.granules ≡ 8)
