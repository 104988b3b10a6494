-- the lines of an answer
use Rattle.std.specs.Prelude.{ℕ, ◌-◌, ◌*◌, ◌^◌, ◌%◌, ◌==◌, nat_lt, if◌then◌else◌, List, [], ◌++◌, codes, decimal, flat_map, length, take, Option, None, Some}
use Rattle.chi_lanes.specs.declared.reply.Reply.{Reply}
use Rattle.chi_trace.specs.Fields.{request_in}
use Rattle.chi_trace.specs.declared.operation.Operation.{Operation}
use Rattle.chi_script.specs.Transcript.{reply_text, request_text}
use Rattle.chi_text.specs.Part.{address_text, word_text}

-- what was answered, where it was seen
abbrev pub seen_text : Option Reply → List ℕ
seen_text None = codes "no reply"
seen_text (Some reply) = reply_text reply

-- the line of an operation: its request, and what was answered
unfoldable pub operation_text : Operation → Option Reply → List ℕ
operation_text op reply = request_text (request_in op) ++ (seen_text reply ++ codes "\n")

-- whether it was answered
abbrev pub answered_text : Option Reply → List ℕ
answered_text None = codes "no reply"
answered_text (Some reply) = codes "answered"

-- the line of an operation whose data are told elsewhere
unfoldable pub told_text : Operation → List ℕ
told_text op = request_text (request_in op) ++ (answered_text op.reply ++ codes "\n")

-- the granule of which no order explains the operations, by its address
unfoldable pub granule_line : ℕ → List ℕ
granule_line granule = codes "not explained: granule " ++ address_text (granule * 8 % 2 ^ 64) ++ codes "\n"

-- a word that the granule can hold
unfoldable pub word_line : ℕ → List ℕ
word_line word = codes "  the granule can hold " ++ word_text word ++ codes "\n"

-- how many more there are
unfoldable pub more_line : ℕ → List ℕ
more_line more = codes "  and " ++ decimal more ++ codes " more\n"

-- such words, of which no more than 16 are told
unfoldable pub word_lines : List ℕ → List ℕ
word_lines words =
    if nat_lt 16 (length words) then flat_map word_line (take 16 words) ++ more_line (length words - 16) else flat_map word_line words

-- until when an operation was open: to its end, or on where it was open when the trace ended
abbrev pub until_text : ℕ → List ℕ
until_text end = if end == 2 ^ 64 - 1 then codes " on: " else codes " to " ++ decimal end ++ codes ": "

-- an operation that was open, with its times
unfoldable pub open_line : Operation → List ℕ
open_line op = codes "  open from " ++ decimal op.start ++ until_text op.end ++ told_text op

-- the operation that ended at the time up to which they cannot be explained
unfoldable pub blamed_line : ℕ → Operation → List ℕ
blamed_line time op = codes "at " ++ decimal time ++ codes ": " ++ told_text op

-- how many operations an order has, where that is told
abbrev pub count_text : Option ℕ → List ℕ
count_text None = []
count_text (Some count) = codes " (operations: " ++ decimal count ++ codes ")"

-- the time up to which they can, where there is one
unfoldable pub explained_line : ℕ → Option ℕ → List ℕ
explained_line time count = if time == 0 then [] else codes "  explained up to " ++ decimal (time - 1) ++ count_text count ++ codes "\n"

-- the word that was observed at the end
unfoldable pub end_line : ℕ → List ℕ
end_line word = codes "at the end: " ++ word_text word ++ codes "\n"

-- no answer was found: of this granule so many states were looked at
unfoldable pub undecided_line : ℕ → ℕ → List ℕ
undecided_line granule states = codes "undecided: granule " ++ address_text (granule * 8 % 2 ^ 64) ++ codes " after " ++ decimal states ++ codes " states\n"
