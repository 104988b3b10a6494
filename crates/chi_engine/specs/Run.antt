-- what a run of the program does: the script of its input, executed from its opening memory on
use Rattle.std.specs.Prelude.{◌≡◌, ◌≢◌, ℕ, List, [], ◌++◌, Option, Result, Ok, Err}
use Rattle.std.specs.Io.KnownBytes.{Appends}
use Rattle.chi_fields.specs.declared.request.Request.{Request}
use Rattle.chi_history.specs.declared.line.Line.{Line}
use Rattle.chi_history.specs.History.{opening_memory}
use Rattle.chi_history.specs.Lines.{serial}
use Rattle.chi_script.specs.RunText.{run_text}
use Rattle.chi_script.specs.Script.{ScriptValue}
use Rattle.chi_script.specs.Transcript.{text}
use Rattle.chi_script.specs.WriterBytes.{AppendsFront}
use Rattle.chi_engine.specs.declared.fault.EngineFault.{EngineFault}
use Rattle.chi_engine.specs.declared.fault.EngineFault.TheVariants.{Work, Write}
use Rattle.chi_engine.specs.declared.options.Options.{Options}
use Rattle.chi_engine.specs.Engine.{FromInput, FromOpening, ReportsRegion}
use Rattle.chi_engine.specs.Store.{opening_of}

-- the greatest requester number in a run
abbrev pub most_src : ℕ
most_src = 7

-- the transcript of a script: the lines of its requests, executed in order, and the memory after them
abbrev pub transcript : ScriptValue → List ℕ
transcript s = run_text s.region s.requests (opening_memory (opening_of s))

-- the lines are those of the first requests of the script, executed in order, and some requests were not executed
pub record IsCut (s : ScriptValue) (lines : List Line) : Type 0 where
  pub executed : List Request
  pub left : List Request
  pub parts : executed ++ left ≡ s.requests
  pub some_left : left ≢ []
  pub told : lines ≡ serial s.region executed (opening_memory (opening_of s))

-- What is written of a script over a home: after Ok its transcript. Where there was no memory for the work, a
-- prefix of the lines so far; after a fault of the writer, a prefix of the transcript.
abbrev pub Runs : ScriptValue → Option (List ℕ) → Option (List ℕ) → Result (Unit {0}) EngineFault → Type 0
Runs s old new (Ok done) = Appends old new (transcript s)
Runs s old new (Err (Work fault)) = (lines : List Line) × IsCut s lines × AppendsFront old new (text lines)
Runs s old new (Err (Write fault)) = AppendsFront old new (transcript s)
Runs s old new (Err fault) = ⊥

-- the same over the store of the options, which may be refused
abbrev pub RunsBy : Options → ScriptValue → Option (List ℕ) → Option (List ℕ) → Result (Unit {0}) EngineFault → Type 0
RunsBy options s old new result = ReportsRegion options.store s.region.granules result × FromOpening result (Runs s old new result)

-- after Ok the transcript of the input's script was written; what each fault means, and what was written then
abbrev pub Outcome : Options → List ℕ → Option (List ℕ) → Option (List ℕ) → Result (Unit {0}) EngineFault → Type 0
Outcome options input old new result = FromInput input most_src result (λ s. RunsBy options s old new result)
