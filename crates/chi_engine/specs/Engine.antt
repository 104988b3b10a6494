-- what reading the input and opening a store come to, before a script is executed
use Rattle.std.specs.Prelude.{◌≡◌, ◌≢◌, ℕ, ◌<◌, ◌≤◌, List, length, Option, Result, Ok, Err}
use Rattle.std.specs.Io.KnownBytes.{Keeps}
use Rattle.chi_history.specs.declared.opening.OpenFault.{OpenFault}
use Rattle.chi_history.specs.declared.opening.OpenFault.TheVariants as open_fault
use Rattle.chi_script.specs.declared.fault.ScriptFault.TheVariants as script_fault
use Rattle.chi_script.specs.Script.{ScriptValue, script}
use Rattle.chi_engine.specs.declared.fault.EngineFault.{EngineFault}
use Rattle.chi_engine.specs.declared.fault.EngineFault.TheVariants.{Read, TooLong, Memory, Script, Open, Work, Write}
use Rattle.chi_engine.specs.declared.options.Store.{Store}
use Rattle.chi_engine.specs.declared.options.Store.TheVariants.{Lock}
use Rattle.chi_engine.specs.Store.{Opens, OpensOn}

-- the greatest number of bytes of a script
abbrev pub most_bytes : ℕ
most_bytes = 4194304

-- what reading the input yields: its script, for requesters up to the greatest one, or a fault
abbrev pub Yields : List ℕ → ℕ → Result ScriptValue EngineFault → Type 0
Yields input top (Ok s) = (length input ≤ most_bytes) × (script input top ≡ Ok s)
Yields input top (Err Read) = Unit {0}
Yields input top (Err TooLong) = most_bytes < length input
Yields input top (Err Memory) = Unit {0}
Yields input top (Err (Script fault)) = fault ≢ script_fault.Memory → script input top ≡ Err fault
Yields input top (Err fault) = ⊥

-- a store that is refused: never for its requesters, for its tries just where these are out of range, and for its
-- region only if it is the locked one
abbrev pub Refuses : Store → OpenFault → Type 0
Refuses store open_fault.RequesterCount = ⊥
Refuses store open_fault.AttemptCount = Opens store → ⊥
Refuses store open_fault.NotOneLine = store ≡ Lock
Refuses store open_fault.Memory = Opens store

-- what an outcome reports of the store: it was opened where a script was executed
abbrev pub ReportsOpening : Store → Result (Unit {0}) EngineFault → Type 0
ReportsOpening store (Ok done) = Opens store
ReportsOpening store (Err (Open fault)) = Refuses store fault
ReportsOpening store (Err (Work fault)) = Opens store
ReportsOpening store (Err (Write fault)) = Opens store
ReportsOpening store (Err fault) = Unit {0}

-- a store that is refused on a region of so many granules: for this region just where it does not open on it
abbrev pub RefusesOn : Store → ℕ → OpenFault → Type 0
RefusesOn store granules open_fault.NotOneLine = OpensOn store granules → ⊥
RefusesOn store granules open_fault.Memory = OpensOn store granules
RefusesOn store granules fault = Unit {0}

-- what an outcome reports of the script's region: the store was opened on it where the script was executed
abbrev pub ReportsRegion : Store → ℕ → Result (Unit {0}) EngineFault → Type 0
ReportsRegion store granules (Ok done) = OpensOn store granules
ReportsRegion store granules (Err (Open fault)) = RefusesOn store granules fault
ReportsRegion store granules (Err (Work fault)) = OpensOn store granules
ReportsRegion store granules (Err (Write fault)) = OpensOn store granules
ReportsRegion store granules (Err fault) = Unit {0}

-- Nothing is written where no script was executed: the input could not be read, is too long or is refused as a script,
-- the store was refused, or there was no memory for one of these.
abbrev pub KeepsUnexecuted : Option (List ℕ) → Option (List ℕ) → Result (Unit {0}) EngineFault → Type 0
KeepsUnexecuted old new (Ok done) = Unit {0}
KeepsUnexecuted old new (Err (Work fault)) = Unit {0}
KeepsUnexecuted old new (Err (Write fault)) = Unit {0}
KeepsUnexecuted old new (Err fault) = Keeps old new

-- what is wrong with an input, its reader or its script
abbrev pub IsInputFault : EngineFault → Type 0
IsInputFault Read = Unit {0}
IsInputFault TooLong = Unit {0}
IsInputFault Memory = Unit {0}
IsInputFault (Script fault) = Unit {0}
IsInputFault fault = ⊥

-- The store was refused, or there was no memory for the words of its region or for the racers; or it was opened, and
-- what it executed holds.
abbrev pub FromOpening : Result (Unit {0}) EngineFault → Type 0 → Type 0
FromOpening (Err (Open fault)) executed = Unit {0}
FromOpening (Err Memory) executed = Unit {0}
FromOpening result executed = executed

-- There is no script, for what is wrong with the input or its reader; or the input is a script, and what was made of
-- it holds.
abbrev pub FromInput : List ℕ → ℕ → Result (Unit {0}) EngineFault → (ScriptValue → Type 0) → Type 0
FromInput input top (Err Read) made = Unit {0}
FromInput input top (Err TooLong) made = most_bytes < length input
FromInput input top (Err Memory) made = Unit {0}
FromInput input top (Err (Script fault)) made = fault ≢ script_fault.Memory → script input top ≡ Err fault
FromInput input top result made =
    (length input ≤ most_bytes) × ((s : ScriptValue) × (script input top ≡ Ok s) × made s)
