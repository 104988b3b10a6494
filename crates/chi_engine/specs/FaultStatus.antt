-- the status of each fault of the engine
use Rattle.std.specs.Prelude.{ℕ}
use Rattle.chi_history.specs.declared.opening.OpenFault.{OpenFault}
use Rattle.chi_history.specs.declared.opening.OpenFault.TheVariants as open_fault
use Rattle.chi_script.specs.declared.fault.ScriptFault.{ScriptFault}
use Rattle.chi_script.specs.declared.fault.ScriptFault.TheVariants as script_fault
use Rattle.chi_engine.specs.declared.fault.EngineFault.{EngineFault}
use Rattle.chi_engine.specs.declared.fault.EngineFault.TheVariants.{Read, TooLong, Memory, Script, Open, Work, Write}

-- a script that is refused, or for which there is no memory
abbrev pub script_status : ScriptFault → ℕ
script_status script_fault.Memory = 4
script_status _ = 3

-- an opening that is refused, or that finds no memory
abbrev pub open_status : OpenFault → ℕ
open_status open_fault.Memory = 4
open_status _ = 3

-- 3 where the script or the opening is refused, 4 out of memory, 5 where a device failed
abbrev pub status_of : EngineFault → ℕ
status_of Read = 5
status_of TooLong = 3
status_of Memory = 4
status_of (Script fault) = script_status fault
status_of (Open fault) = open_status fault
status_of (Work fault) = 4
status_of (Write fault) = 5
