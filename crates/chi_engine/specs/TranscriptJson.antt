-- what a run or a race that writes its transcript as JSON does
use Rattle.std.specs.Prelude.{ℕ, List, ◌++◌, flat_map, map, true, Option, Result, Err, codes}
use Rattle.std.specs.Io.KnownBytes.{Keeps}
use Rattle.serde_json.specs.Data.{Data, Members, boolean, no_members, object, put}
use Rattle.serde_json.specs.View.{items_of}
use Rattle.chi_fields.specs.Extent.{Extent}
use Rattle.chi_fields.specs.Opcode.{opcode_name}
use Rattle.chi_fields.specs.Refusal.{name_of}
use Rattle.chi_fields.specs.declared.request.Request.{Request}
use Rattle.chi_history.specs.declared.entry.Entry.{Entry}
use Rattle.chi_history.specs.declared.line.Line.{Line}
use Rattle.chi_history.specs.declared.line.Line.TheVariants.{Completed, Refused, Retried}
use Rattle.chi_json.specs.Object.{with_array, with_bytes, with_number, with_request, with_text, word_bytes}
use Rattle.chi_script.specs.Script.{ScriptValue}
use Rattle.chi_engine.specs.declared.fault.EngineFault.{EngineFault}
use Rattle.chi_engine.specs.declared.fault.EngineFault.TheVariants.{Memory, Work}
use Rattle.chi_engine.specs.declared.options.Options.{Options}
use Rattle.chi_engine.specs.declared.run_form.RunForm.{RunForm}
use Rattle.chi_engine.specs.declared.run_form.RunForm.TheVariants.{Trace, Transcript}
use Rattle.chi_engine.specs.Engine.{FromInput, FromOpening, ReportsRegion}
use Rattle.chi_engine.specs.JsonWritten.{WritesValue}
use Rattle.chi_engine.specs.RaceTranscript.{IsRaced, numbers_from, words_of}
use Rattle.chi_engine.specs.Run.{most_src}
use Rattle.chi_engine.specs.Trace.{final_words_of, lines_of, trace_data, with_reply}

-- the members of a request, and its opcode's name
unfoldable pub named : Request → Members
named q = with_text (codes "name") (opcode_name q.opcode) (with_request q no_members)

-- the members of a line: those of its request, and its reply, the refusal, or that it got RetryAck
unfoldable pub line_members : Line → Members
line_members (Completed q reply) = with_reply reply (named q)
line_members (Refused q refusal) = with_text (codes "refused") (name_of refusal) (named q)
line_members (Retried q) = put (codes "retry") (boolean true) (named q)

-- the lines as objects, in their order
abbrev pub line_objects : List Line → List Data
line_objects lines = map (λ line. object (line_members line)) lines

-- a transcript: the region, its bytes after the requests, and the lines of these
unfoldable pub transcript_json : Extent → List ℕ → List Line → Data
transcript_json region final_words lines =
    object (with_array (codes "requests") (items_of (line_objects lines)) (with_bytes (codes "final") (word_bytes final_words)
    (with_number (codes "granules") region.granules (with_number (codes "base") region.base no_members))))

-- what a run of a script is written as, by its lines and the words that it left
abbrev pub value_in : RunForm → ScriptValue → List ℕ → List Line → Data
value_in Trace s final_words lines = trace_data s.region s.image final_words lines
value_in Transcript s final_words lines = transcript_json s.region final_words lines

abbrev pub value_of : RunForm → ScriptValue → Data
value_of form s = value_in form s (final_words_of s) (lines_of s)

-- what is written of a script over the store of the options, which may be refused
abbrev pub RunsAs : RunForm → Options → ScriptValue → Option (List ℕ) → Option (List ℕ) → Result (Unit {0}) EngineFault → Type 0
RunsAs form options s old new result = ReportsRegion options.store s.region.granules result × FromOpening result (WritesValue (value_of form s) old new result)

-- after Ok the run of the input's script was written so; what each fault means, and what was written then
abbrev pub OutcomeAs : RunForm → Options → List ℕ → Option (List ℕ) → Option (List ℕ) → Result (Unit {0}) EngineFault → Type 0
OutcomeAs form options input old new result = FromInput input most_src result (λ s. RunsAs form options s old new result)

-- after Ok the transcript of the run of the input's script was written
abbrev pub RunJsonOutcome : Options → List ℕ → Option (List ℕ) → Option (List ℕ) → Result (Unit {0}) EngineFault → Type 0
RunJsonOutcome options input old new result = OutcomeAs Transcript options input old new result

-- the lines of a race: those of 1 on, each after the other, and then those of 0
abbrev pub lines_of_race : ℕ → (ℕ → List Line) → List Line
lines_of_race workers lines = flat_map lines (numbers_from 1 workers) ++ lines 0

-- the transcript of a race: the lines, and the memory at the end of the history
abbrev pub race_json : ℕ → ScriptValue → List Entry → (ℕ → List Line) → Data
race_json workers s since lines = transcript_json s.region (words_of s since) (lines_of_race workers lines)

-- What is written of a script over a home: the transcript of a race, after a fault of the writer a beginning of one. Where there was no
-- memory for the racers, the work or the text, nothing is.
abbrev pub RacesJson : Options → ScriptValue → Option (List ℕ) → Option (List ℕ) → Result (Unit {0}) EngineFault → Type 0
RacesJson options s old new (Err (Work fault)) = Keeps old new
RacesJson options s old new (Err Memory) = Keeps old new
RacesJson options s old new result =
    (since : List Entry) × (lines : ℕ → List Line) × IsRaced options s since lines × WritesValue (race_json options.workers s since lines) old new result

-- the same over the store of the options, which may be refused
abbrev pub RacesJsonBy : Options → ScriptValue → Option (List ℕ) → Option (List ℕ) → Result (Unit {0}) EngineFault → Type 0
RacesJsonBy options s old new result = ReportsRegion options.store s.region.granules result × FromOpening result (RacesJson options s old new result)

-- after Ok the transcript of a race of the input's script was written; what each fault means, and what was written then
abbrev pub RaceJsonOutcome : Options → List ℕ → Option (List ℕ) → Option (List ℕ) → Result (Unit {0}) EngineFault → Type 0
RaceJsonOutcome options input old new result = FromInput input options.workers result (λ s. RacesJsonBy options s old new result)
