-- the lines of what is found of events
use Rattle.std.specs.Prelude.{ℕ, ◌==◌, ◌++◌, Bool, if◌then◌else◌, List, [], None, codes, decimal, flat_map}
use Rattle.chi_script.specs.Transcript.{request_text}
use Rattle.chi_trace.specs.RequestFields.{request_of}
use Rattle.chi_trace.specs.declared.request_fields.RequestFields.{RequestFields}
use Rattle.chi_answer.specs.DoubtLines.{found_line}
use Rattle.chi_answer.specs.Lines.{granule_line, undecided_line}
use Rattle.chi_watch.specs.declared.counts.Counts.{Counts}
use Rattle.chi_watch.specs.declared.ending.FoundAtEnd.{FoundAtEnd}
use Rattle.chi_watch.specs.declared.undecided.UndecidedAtEnd.{UndecidedAtEnd}
use Rattle.chi_watch_text.specs.FoundGranule.{verdict_of}
use Rattle.chi_answer.specs.CutShort.{cut_short_line}
use Rattle.chi_watch_text.specs.ReachTexts.{reach_text}
use Rattle.chi_watch_text.specs.declared.required.Required.{Required}
use Rattle.chi_watch_text.specs.declared.watched.FoundGranule.{FoundGranule}
use Rattle.chi_watch_text.specs.declared.watched.Watched.{Watched}
use Rattle.chi_watch_text.specs.declared.waiting.Waiting.{Waiting}
use Rattle.chi_watch_text.specs.declared.waiting.WaitsFor.{WaitsFor}
use Rattle.chi_watch_text.specs.declared.waiting.WaitsFor.TheVariants.{Data, Dbid, Reply}
use Rattle.chi_judge.specs.declared.standing.Standing.{Standing}
use Rattle.chi_judge.specs.declared.standing.Standing.TheVariants.{Explained, Unexplained, Undecided}

-- a granule, how far it can be explained, and the line by which it was found
unfoldable pub found_lines : FoundGranule → List ℕ
found_lines f = granule_line f.granule ++ (reach_text None f.reach ++ (cut_short_line f.cut_short ++ (codes "  at line " ++ decimal f.line ++ codes "\n")))

-- one that is not explained at the end
unfoldable pub at_end_lines : FoundAtEnd → List ℕ
at_end_lines f = granule_line f.granule ++ (reach_text f.final_word f.reach ++ (cut_short_line f.cut_short ++ codes "  at the end\n"))

-- one that is not decided, and the time up to which it is explained, where one was found
abbrev pub undecided_lines : ℕ → UndecidedAtEnd → List ℕ
undecided_lines budget u = undecided_line u.granule budget ++ found_line u.explained

-- a request as a transcript has it, of any requester and transaction
abbrev pub fields_text : RequestFields → List ℕ
fields_text f = request_text (record (request_of f) { src = f.src; txn = f.txn })

-- what a request waits for
abbrev pub waits_text : WaitsFor → List ℕ
waits_text Data = codes "data"
waits_text Dbid = codes "DBID"
waits_text Reply = codes "reply"

-- an outstanding request: the line that told it, since when it is outstanding, its fields, and what it waits for
unfoldable pub waiting_line : Waiting → List ℕ
waiting_line w =
    codes "    line " ++ decimal w.fields.number ++ codes " since " ++ decimal w.since ++ codes ": "
    ++ (fields_text w.fields ++ (codes "waits for its " ++ waits_text w.waits_for ++ codes "\n"))

-- how much was told, and which requests are outstanding
unfoldable pub outstanding_text : Counts → List ℕ
outstanding_text counts = codes "  operations that ended: " ++ decimal counts.ended ++ codes "\n  requests outstanding: " ++ decimal counts.outstanding ++ codes "\n"

unfoldable pub granules_text : Counts → ℕ → List ℕ
granules_text counts unjudged = codes "  granules: " ++ decimal counts.granules ++ codes "\n  granules not judged: " ++ decimal unjudged ++ codes "\n"

abbrev pub counts_text : Watched → List ℕ
counts_text w = outstanding_text w.counts ++ (flat_map waiting_line w.waiting.items ++ granules_text w.counts w.unjudged)

-- what is required and does not hold, a line each
unfoldable pub are_text : ℕ → List ℕ
are_text count = if count == 1 then codes " is" else codes " are"

unfoldable pub operations_text : ℕ → List ℕ
operations_text count = if count == 1 then codes " operation" else codes " operations"

unfoldable pub end_line : Bool → List ℕ
end_line is_missing = if is_missing then codes "required: the last line tells the end\n" else []

unfoldable pub operations_line : ℕ → ℕ → List ℕ
operations_line required ended =
    if required == 0 then [] else codes "required: at least " ++ decimal required ++ operations_text required ++ codes " ended, and " ++ decimal ended ++ codes " did\n"

unfoldable pub quiet_line : Bool → ℕ → List ℕ
quiet_line is_missing outstanding =
    if is_missing then codes "required: no request is outstanding, and " ++ decimal outstanding ++ are_text outstanding ++ codes "\n" else []

unfoldable pub judged_line : Bool → ℕ → List ℕ
judged_line is_missing unjudged =
    if is_missing then codes "required: each granule is judged, and " ++ decimal unjudged ++ are_text unjudged ++ codes " not\n" else []

abbrev pub missing_text : Required → Watched → List ℕ
missing_text missing w =
    end_line missing.end ++ (operations_line missing.operations w.counts.ended ++ (quiet_line missing.quiet w.counts.outstanding ++ judged_line missing.judged w.unjudged))

-- that all is explained, where it is
abbrev pub explained_text : Standing → List ℕ
explained_text Explained = codes "explained\n"
explained_text Unexplained = []
explained_text Undecided = []

-- whether all is explained, how much was told, and what is required and does not hold
abbrev pub summary_text : Watched → Required → List ℕ
summary_text w missing = explained_text (verdict_of w) ++ (counts_text w ++ missing_text missing w)
