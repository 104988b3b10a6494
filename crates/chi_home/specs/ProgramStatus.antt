-- the statuses that the program ends with
use Rattle.std.specs.Prelude.{◌≡◌, ℕ, ◌≤◌, ◌⊎◌}
use Rattle.chi_engine.specs.FaultStatus.{status_of}
use Rattle.chi_home.specs.Generating.{generate_status}
use Rattle.chi_home.specs.declared.fault.HomeFault.{HomeFault}
use Rattle.chi_home.specs.declared.fault.HomeFault.TheVariants.{Engine, Generate}

-- 0 done, 2 command line refused, and those above: never 1
abbrev pub IsStatus : ℕ → Type 0
IsStatus n = (n ≡ 0) ⊎ ((2 ≤ n) × (n ≤ 5))

-- the status of a fault: that of the engine, or of making a script
abbrev pub home_status : HomeFault → ℕ
home_status (Engine fault) = status_of fault
home_status (Generate fault) = generate_status fault
