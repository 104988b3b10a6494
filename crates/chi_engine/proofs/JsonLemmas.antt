-- values that are written as JSON
use Rattle.std.proofs.Common.{◌≡◌, ℕ, suc, ◌+◌, ◌<◌, ◌≤◌, List, [], ◌∷◌, ◌++◌, Option, Some, Result, Ok, Err, true, flat_map, get_or, length, map, take, ap, refl, sym, ◌∙◌, arith}
use Rattle.std.proofs.lemmas.List.{flat_map_more, map-append, map_more, take_more}
use Rattle.std.specs.Str.{is_utf8}
use Rattle.serde_json.specs.Data.{Data, depth, items_depth, object}
use Rattle.serde_json.specs.Read.{read}
use Rattle.serde_json.specs.View.{items_of, view}
use Rattle.serde_json.specs.declared.value.Value.{Value}
use Rattle.chi_fields.specs.Extent.{Extent}
use Rattle.chi_lanes.specs.declared.reply.Reply.TheVariants.{Comp, CompData}
use Rattle.chi_history.specs.declared.entry.Entry.{Entry}
use Rattle.chi_history.specs.declared.line.Line.{Line}
use Rattle.chi_history.specs.declared.line.Line.TheVariants.{Completed, Refused, Retried}
use Rattle.chi_json.specs.Object.{with_array, with_bytes, with_number, with_request, with_text}
use Rattle.chi_json.specs.Values.{json_value}
use Rattle.chi_requester.specs.declared.race_of_any.Racer.{Racer}
use Rattle.chi_requester.specs.Race.{lines_of_all}
use Rattle.chi_requester.specs.Team.{lines_in}
use Rattle.chi_script.specs.Script.{ScriptValue}
use Rattle.chi_engine.specs.declared.fault.EngineFault.{EngineFault}
use Rattle.chi_engine.specs.declared.fault.EngineFault.TheVariants.{Memory, Open, Read, Script, TooLong, Work, Write}
use Rattle.chi_engine.specs.declared.options.Options.{Options}
use Rattle.chi_engine.specs.declared.run_form.RunForm.{RunForm}
use Rattle.chi_engine.specs.declared.run_form.RunForm.TheVariants.{Trace, Transcript}
use Rattle.chi_engine.specs.JsonWritten.{WritesValue}
use Rattle.chi_engine.specs.RaceTranscript.{IsRaced, numbers_from, words_of}
use Rattle.chi_engine.specs.Trace.{with_reply}
use Rattle.chi_engine.specs.TranscriptJson.{RacesJson, line_members, line_objects, lines_of_race, named, race_json, transcript_json, value_in}
use Rattle.chi_engine.proofs.TraceLemmas.{trace_depth}

-- a text that is made of a value is read as it
pub reads_back : (value : Data) (text : List ℕ) → is_utf8 text ≡ true → depth value ≤ 127 → (depth value ≤ 127 → read text ≡ Some value) → json_value text ≡ Some value
unfolding json_value
reads_back value text utf8 deep reads = rw utf8 (reads deep)

-- a line nests once
line_depth : (line : Line) (rest : List Data) → items_depth (items_of rest) ≤ 1 → items_depth (items_of (object (line_members line) ∷ rest)) ≤ 1
unfolding line_members named with_reply with_request with_number with_text with_bytes
line_depth (Completed q Comp) rest few = omega arith
line_depth (Completed q (CompData lanes)) rest few = omega arith
line_depth (Refused q refusal) rest few = omega arith
line_depth (Retried q) rest few = omega arith

lines_depth : (lines : List Line) → items_depth (items_of (line_objects lines)) ≤ 1
lines_depth [] = omega arith
lines_depth (line ∷ lines) = line_depth line (line_objects lines) (lines_depth lines)

-- a transcript nests three times at most
pub transcript_depth : (region : Extent) (words : List ℕ) (lines : List Line) → depth (transcript_json region words lines) ≤ 127
unfolding transcript_json with_array with_bytes with_number
transcript_depth region words lines = let deep = lines_depth lines in omega arith

-- so does what a run is written as
pub value_depth : (form : RunForm) (s : ScriptValue) (words : List ℕ) (lines : List Line) → depth (value_in form s words lines) ≤ 127
value_depth Trace s words lines = trace_depth s.region s.image words lines
value_depth Transcript s words lines = transcript_depth s.region words lines

-- one line more
pub objects_more : (lines : List Line) (i : ℕ) (d : Line) (values : List Value) (value : Value) → i < length lines
    → map view values ≡ line_objects (take i lines) → view value ≡ object (line_members (get_or lines i d)) → map view (values ++ value ∷ []) ≡ line_objects (take (i + 1) lines)
objects_more lines i d values value inside so_far made =
    map-append view values (value ∷ []) ∙ (ap (λ l. l ++ view value ∷ []) so_far
    ∙ (ap (λ v. line_objects (take i lines) ++ v ∷ []) made ∙ sym (map_more (λ line. object (line_members line)) lines i d inside)))

-- the lines of one racer more
pub lines_more : {S G A : Type 0} (racers : List (Racer S G A)) (i : ℕ) (racer : Racer S G A) (before after : List Line) → i < length racers → racer ≡ get_or racers i racer
    → before ≡ flat_map lines_in (take i racers) → after ≡ before ++ racer.lines.items → after ≡ flat_map lines_in (take (i + 1) racers)
lines_more racers i racer before after inside is so_far more =
    more ∙ (ap (λ l. l ++ racer.lines.items) so_far ∙ (ap (λ (r : Racer _ _ _). flat_map lines_in (take i racers) ++ lines_in r) is
    ∙ (flat_map_more lines_in [] (take i racers) (get_or racers i racer) ∙ ap (flat_map lines_in) (sym (take_more racers i racer inside)))))

-- the lines of racers whose numbers are from one on
lines_from : {S G A : Type 0} (first : ℕ) (lines : ℕ → List Line) (racers : List (Racer S G A))
    → ((i : ℕ) → i < length racers → lines (first + i) ≡ get_or (map lines_in racers) i []) → flat_map lines_in racers ≡ flat_map lines (numbers_from first (length racers))
lines_from first lines [] are = refl
lines_from first lines (x ∷ xs) are =
    let own : lines first ≡ x.lines.items = ap lines (omega arith) ∙ are 0 (omega arith) in
    let rest = lines_from (suc first) lines xs (λ i inside. ap lines (omega arith) ∙ are (suc i) (omega arith)) in
    rw (own, rest) refl

-- the lines of as many racers as there are workers, and of 0 after them
pub all_lines_are : {S G A : Type 0} (workers : ℕ) (zero : List Line) (racers : List (Racer S G A)) → length racers ≡ workers
    → flat_map lines_in racers ++ zero ≡ lines_of_race workers (lines_of_all zero racers)
all_lines_are workers zero racers count =
    rw (← count) (ap (λ (told : List Line). told ++ zero) (lines_from 1 (lines_of_all zero racers) racers (λ i inside. let e : 1 + i ≡ suc i = omega arith in ap (lines_of_all zero racers) e)))

-- the transcript of a race, by the values that the caller has
pub race_value : {S G A : Type 0} (workers : ℕ) (s : ScriptValue) (since : List Entry) (zero last told lines : List Line) (racers : List (Racer S G A)) (region : Extent) (words : List ℕ)
    → length racers ≡ workers → region ≡ s.region → words ≡ words_of s since → told ≡ lines → lines ≡ flat_map lines_in racers ++ last → last ≡ zero
    → transcript_json region words told ≡ race_json workers s since (lines_of_all zero racers)
race_value workers s since zero last told lines racers region words count at shown same are end = rw (at, shown, same, are, end, all_lines_are workers zero racers count) refl

-- what is written of a race that is over is what a race of the script writes
pub race_written : (options : Options) (s : ScriptValue) (old new : Option (List ℕ)) (since : List Entry) (lines : ℕ → List Line) (value told : Data) (result : Result (Unit {0}) EngineFault)
    → IsRaced options s since lines → value ≡ told → told ≡ race_json options.workers s since lines → WritesValue value old new result → RacesJson options s old new result
race_written options s old new since lines value told (Ok done) raced made is written = (since, lines, raced, rw (made, is) at written)
race_written options s old new since lines value told (Err (Write fault)) raced made is written = (since, lines, raced, rw (made, is) at written)
race_written options s old new since lines value told (Err (Work fault)) raced made is written = written
race_written options s old new since lines value told (Err Memory) raced made is written = written
race_written options s old new since lines value told (Err Read) raced made is written = absurd written
race_written options s old new since lines value told (Err TooLong) raced made is written = absurd written
race_written options s old new since lines value told (Err (Script fault)) raced made is written = absurd written
race_written options s old new since lines value told (Err (Open fault)) raced made is written = absurd written
