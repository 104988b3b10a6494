-- what a run that writes a trace does: the requests of its input's script, each with what became of it
use Rattle.std.specs.Prelude.{ℕ, List, filter_map, Option, None, Some, Result, codes}
use Rattle.std.specs.List.{enumerate_from}
use Rattle.serde_json.specs.Data.{Data, Members, no_members, object}
use Rattle.serde_json.specs.View.{items_of}
use Rattle.chi_fields.specs.Extent.{Extent}
use Rattle.chi_fields.specs.Refusal.{name_of}
use Rattle.chi_fields.specs.declared.request.Request.{Request}
use Rattle.chi_lanes.specs.declared.reply.Reply.{Reply}
use Rattle.chi_lanes.specs.declared.reply.Reply.TheVariants.{Comp, CompData}
use Rattle.chi_history.specs.declared.line.Line.{Line}
use Rattle.chi_history.specs.declared.line.Line.TheVariants.{Completed, Refused, Retried}
use Rattle.chi_history.specs.History.{opening_memory}
use Rattle.chi_history.specs.Lines.{serial, serial_end}
use Rattle.chi_json.specs.Object.{with_array, with_bytes, with_number, with_request, with_text, word_bytes}
use Rattle.chi_script.specs.RunText.{granule_words}
use Rattle.chi_script.specs.Script.{ScriptValue}
use Rattle.chi_engine.specs.declared.fault.EngineFault.{EngineFault}
use Rattle.chi_engine.specs.declared.options.Options.{Options}
use Rattle.chi_engine.specs.Engine.{FromInput, FromOpening, ReportsRegion}
use Rattle.chi_engine.specs.JsonWritten.{IsTextOf, WritesValue}
use Rattle.chi_engine.specs.Run.{most_src}
use Rattle.chi_engine.specs.Store.{opening_of}

-- the lines of a script's requests, executed in order
abbrev pub lines_of : ScriptValue → List Line
lines_of s = serial s.region s.requests (opening_memory (opening_of s))

-- the words of its granules after them
abbrev pub final_words_of : ScriptValue → List ℕ
final_words_of s = granule_words (serial_end s.region s.requests (opening_memory (opening_of s))) s.region.base s.region.granules

-- a request that was taken and answered at a time
unfoldable pub taken_at : ℕ → Request → Members
taken_at time q = with_number (codes "end") time (with_number (codes "start") time (with_request q no_members))

-- the members, and a reply: `comp`, or the data packet
unfoldable pub with_reply : Reply → Members → Members
with_reply Comp members = with_text (codes "reply") (codes "comp") members
with_reply (CompData lanes) members = with_bytes (codes "reply") lanes members

-- the request of a line, taken at a time: with its reply, or with the reason for which it was refused; one that got RetryAck stands
-- in no trace
unfoldable pub line_data : ℕ → Line → Option Data
line_data time (Completed q reply) = Some (object (with_reply reply (taken_at time q)))
line_data time (Refused q refusal) = Some (object (with_text (codes "refused") (name_of refusal) (taken_at time q)))
line_data time (Retried q) = None

-- the requests of lines, each taken at the time that is its line's place, counted from 0
abbrev pub lines_data : List Line → List Data
lines_data lines = filter_map (λ p. line_data p.0 p.1) (enumerate_from 0 lines)

-- a trace: a region, the words of its granules at the opening and at the end, and the requests of lines
unfoldable pub trace_data : Extent → List ℕ → List ℕ → List Line → Data
trace_data region image final_words lines =
    object (with_array (codes "requests") (items_of (lines_data lines)) (with_bytes (codes "final") (word_bytes final_words)
    (with_bytes (codes "image") (word_bytes image) (with_number (codes "granules") region.granules (with_number (codes "base") region.base no_members)))))

-- the trace of a script's run
abbrev pub trace_of : ScriptValue → Data
trace_of s = trace_data s.region s.image (final_words_of s) (lines_of s)

-- the text is that trace
abbrev pub IsTraceText : ScriptValue → List ℕ → Type 0
IsTraceText s text = IsTextOf (trace_of s) text

-- what is written of a script over the store of the options, which may be refused: the trace of its run
abbrev pub TracesBy : Options → ScriptValue → Option (List ℕ) → Option (List ℕ) → Result (Unit {0}) EngineFault → Type 0
TracesBy options s old new result = ReportsRegion options.store s.region.granules result × FromOpening result (WritesValue (trace_of s) old new result)

-- after Ok the trace of the run of the input's script was written; what each fault means, and what was written then
abbrev pub TraceOutcome : Options → List ℕ → Option (List ℕ) → Option (List ℕ) → Result (Unit {0}) EngineFault → Type 0
TraceOutcome options input old new result = FromInput input most_src result (λ s. TracesBy options s old new result)
