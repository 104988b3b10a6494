-- what is written of a value as JSON
use Rattle.std.specs.Prelude.{◌≡◌, ℕ, List, Option, Some, Result, Ok, Err}
use Rattle.std.specs.Io.KnownBytes.{Appends, Keeps}
use Rattle.serde_json.specs.Data.{Data}
use Rattle.chi_json.specs.Values.{json_value}
use Rattle.chi_script.specs.WriterBytes.{AppendsFront}
use Rattle.chi_engine.specs.declared.fault.EngineFault.{EngineFault}
use Rattle.chi_engine.specs.declared.fault.EngineFault.TheVariants.{Memory, Work, Write}

-- the text is JSON of this value
abbrev pub IsTextOf : Data → List ℕ → Type 0
IsTextOf value text = json_value text ≡ Some value

-- After Ok a text of this value was written, and after a fault of the writer a beginning of one. Where there was no memory for the
-- work, or for the text, nothing was.
abbrev pub WritesValue : Data → Option (List ℕ) → Option (List ℕ) → Result (Unit {0}) EngineFault → Type 0
WritesValue value old new (Ok done) = (text : List ℕ) × IsTextOf value text × Appends old new text
WritesValue value old new (Err (Write fault)) = (text : List ℕ) × IsTextOf value text × AppendsFront old new text
WritesValue value old new (Err (Work fault)) = Keeps old new
WritesValue value old new (Err Memory) = Keeps old new
WritesValue value old new (Err fault) = ⊥

-- Nothing is written but where the whole text was made: after a fault of the writer there may be a beginning of it.
abbrev pub KeepsUnwritten : Option (List ℕ) → Option (List ℕ) → Result (Unit {0}) EngineFault → Type 0
KeepsUnwritten old new (Ok done) = Unit {0}
KeepsUnwritten old new (Err (Write fault)) = Unit {0}
KeepsUnwritten old new (Err fault) = Keeps old new
