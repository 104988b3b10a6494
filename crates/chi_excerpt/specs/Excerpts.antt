-- the last operations of a granule where they stop being explained, as lines
use Rattle.std.specs.Prelude.{ℕ, ◌-◌, nat_lt, true, false, if◌then◌else◌, List, [], ◌∷◌, ◌++◌, codes, decimal, filter, flat_map, length, Some}
use Rattle.chi_lanes.specs.declared.reply.Reply.{Reply}
use Rattle.chi_judge.specs.declared.reach.Stop.{Stop}
use Rattle.chi_trace.specs.Replies.{reply_fault}
use Rattle.chi_trace.specs.declared.operation.Operation.{Operation}
use Rattle.chi_excerpt.specs.declared.columns.Widths.{Widths}
use Rattle.chi_excerpt.specs.Impossible.{impossible_text}
use Rattle.chi_excerpt.specs.Operands.{returned_text}
use Rattle.chi_excerpt.specs.Rows.{first_start, widths_of}
use Rattle.chi_excerpt.specs.Texts.{row_text}
use Rattle.chi_excerpt.specs.WrongBytes.{wrong_bytes, wrong_line}

-- those that ended after a time
abbrev pub ended_after : ℕ → List Operation → List Operation
ended_after time ops = filter (λ op. nat_lt time op.end) ops

-- all rows: of those that ended before, of the one that is blamed, and of those that were still open
abbrev pub all_rows : Stop → List Operation → List Operation
all_rows s still_open = s.before.items ++ s.op ∷ still_open

-- a reply that would have been legal for an operation
unfoldable pub legal_line : Operation → Reply → List ℕ
legal_line row reply = codes "    legal would be:" ++ (returned_text row.access (Some reply) ++ codes "\n")

-- the line of time that rows stand on, up to a time
unfoldable pub line_of_time : ℕ → ℕ → List ℕ
line_of_time from to = codes "  the last operations of the granule, from time " ++ decimal from ++ codes " to " ++ decimal to ++ codes ":\n"

-- The operation that is blamed, why no home answers so, where none does, the replies that would have been legal, and the bytes of
-- the answer that none of them has.
unfoldable pub blamed_text : List ℕ → ℕ → ℕ → Widths → Stop → List ℕ
blamed_text label from to w s =
    row_text label true from to w s.op ++ (impossible_text (reply_fault s.op.access s.op.reply) ++ (flat_map (legal_line s.op) s.legal.items
    ++ wrong_line (wrong_bytes s.op s.legal.items)))

-- the number of an operation's request
abbrev pub number_text : Operation → List ℕ
number_text op = codes " " ++ decimal op.number

-- where more than one operation may be the one whose answer is wrong, all of them
unfoldable pub suspects_line : List ℕ → List Operation → List ℕ
suspects_line label suspects =
    if nat_lt 1 (length suspects)
    then codes "  any one of these answers may be the wrong one: " ++ (label ++ (codes "s" ++ (flat_map number_text suspects ++ codes "\n")))
    else []

-- the last operations of an order that explains a granule's up to the time before, after the words that say which these are
unfoldable pub order_line : List ℕ → ℕ → List Operation → List ℕ
order_line words time last =
    if nat_lt 0 (length last)
    then codes "  up to " ++ (decimal (time - 1) ++ (words ++ (flat_map number_text last ++ codes "\n")))
    else []

-- The rows of operations that ended before, of the one that is blamed, and of those that were still open, on a line of time from the
-- first start of them to the time; and which answers may be the wrong one.
unfoldable pub excerpt_text : List ℕ → Stop → List ℕ
excerpt_text label s =
    let still_open = ended_after s.time s.overlapping.items in
    let rows = all_rows s still_open in
    let from = first_start s.time rows in
    let widths = widths_of rows in
    line_of_time from s.time ++ (flat_map (row_text label false from s.time widths) s.before.items
    ++ (blamed_text label from s.time widths s ++ (flat_map (row_text label false from s.time widths) still_open
    ++ suspects_line label s.suspects.items)))
