-- what a race of the program does: 1 to 7 requesters at work at the same time over a fresh home, and 0 after
use Rattle.std.specs.Prelude.{ℕ, zero, suc, List, [], ◌∷◌, ◌++◌, flat_map, Option, Result, Ok, Err}
use Rattle.std.specs.Io.KnownBytes.{Appends, Keeps}
use Rattle.chi_history.specs.declared.entry.Entry.{Entry}
use Rattle.chi_history.specs.declared.line.Line.{Line}
use Rattle.chi_history.specs.History.{end}
use Rattle.chi_requester.specs.declared.fault.WorkFault.{WorkFault}
use Rattle.chi_requester.specs.declared.race_of_any.Racer.{Racer}
use Rattle.chi_requester.specs.Race.{IsRace, IsRaceRun}
use Rattle.chi_requester.specs.Team.{one_to}
use Rattle.chi_requester.specs.Work.{own_requests}
use Rattle.chi_script.specs.RunText.{granule_words, memory_text}
use Rattle.chi_script.specs.Script.{ScriptValue}
use Rattle.chi_script.specs.Transcript.{text}
use Rattle.chi_script.specs.WriterBytes.{AppendsFront}
use Rattle.chi_engine.specs.declared.fault.EngineFault.{EngineFault}
use Rattle.chi_engine.specs.declared.fault.EngineFault.TheVariants.{Memory, Work, Write}
use Rattle.chi_engine.specs.declared.options.Options.{Options}
use Rattle.chi_engine.specs.Engine.{FromInput, FromOpening, ReportsRegion}
use Rattle.chi_engine.specs.Store.{limit_of, opening_of}

-- one legal history stands behind the lines of the racers, who are 1 to the number of workers, and of 0, and every request of the script was executed
abbrev pub IsRaced : Options → ScriptValue → List Entry → (ℕ → List Line) → Type 0
IsRaced options s since lines = IsRace (opening_of s) options.policy (limit_of options.store) (one_to options.workers) [] since (own_requests s.requests) lines

-- the same of the first requests of each, some not being executed, since there was no memory
abbrev pub IsRaceCut : WorkFault → Options → ScriptValue → List Entry → (ℕ → List Line) → Type 0
IsRaceCut fault options s since lines =
    IsRaceRun (Err fault) (opening_of s) options.policy (limit_of options.store) (one_to options.workers) s.requests [] since (λ r. []) lines

-- the words of the granules at the end of the history
abbrev pub words_of : ScriptValue → List Entry → List ℕ
words_of s since = granule_words (end (opening_of s) since) s.region.base s.region.granules

-- so many numbers, from one on
abbrev pub numbers_from : ℕ → ℕ → List ℕ
numbers_from first zero = []
numbers_from first (suc n) = first ∷ numbers_from (suc first) n

-- the lines of the racers in the order of their numbers, and then those of 0
abbrev pub race_lines : ℕ → (ℕ → List Line) → List ℕ
race_lines workers lines = flat_map (λ r. text (lines r)) (numbers_from 1 workers) ++ text (lines 0)

-- the lines of the racers in their order
abbrev pub racers_text : {S G A : Type 0} → List (Racer S G A) → List ℕ
racers_text racers = flat_map (λ racer. text racer.lines.items) racers

-- the transcript of a race: the lines, and the memory at the end of the history
abbrev pub race_text : ℕ → ScriptValue → List Entry → (ℕ → List Line) → List ℕ
race_text workers s since lines = race_lines workers lines ++ memory_text s.region (end (opening_of s) since)

-- What is written of a script over a home: after Ok the transcript of a race. Where there was no memory for the
-- work, a prefix of the lines so far; after a fault of the writer, a prefix of the transcript of a race.
abbrev pub Races : Options → ScriptValue → Option (List ℕ) → Option (List ℕ) → Result (Unit {0}) EngineFault → Type 0
Races options s old new (Ok done) =
    (since : List Entry) × (lines : ℕ → List Line) × IsRaced options s since lines × Appends old new (race_text options.workers s since lines)
Races options s old new (Err (Work fault)) =
    (since : List Entry) × (lines : ℕ → List Line) × IsRaceCut fault options s since lines × AppendsFront old new (race_lines options.workers lines)
Races options s old new (Err (Write fault)) =
    (since : List Entry) × (lines : ℕ → List Line) × IsRaced options s since lines × AppendsFront old new (race_text options.workers s since lines)
Races options s old new (Err fault) = ⊥

-- the same over a home that was opened; where there was no memory for the racers, nothing is written
abbrev pub RacesOver : Options → ScriptValue → Option (List ℕ) → Option (List ℕ) → Result (Unit {0}) EngineFault → Type 0
RacesOver options s old new (Err Memory) = Keeps old new
RacesOver options s old new result = Races options s old new result

-- the same over the store of the options, which may be refused
abbrev pub RacesBy : Options → ScriptValue → Option (List ℕ) → Option (List ℕ) → Result (Unit {0}) EngineFault → Type 0
RacesBy options s old new result = ReportsRegion options.store s.region.granules result × FromOpening result (Races options s old new result)

-- after Ok the transcript of a race of the input's script was written; what each fault means, and what was
-- written then
abbrev pub RaceOutcome : Options → List ℕ → Option (List ℕ) → Option (List ℕ) → Result (Unit {0}) EngineFault → Type 0
RaceOutcome options input old new result = FromInput input options.workers result (λ s. RacesBy options s old new result)
