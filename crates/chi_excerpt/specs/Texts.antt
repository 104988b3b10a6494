-- the lines of rows
use Rattle.std.specs.Prelude.{ℕ, Bool, if◌then◌else◌, List, ◌++◌, codes, decimal}
use Rattle.chi_fields.specs.Opcode.{opcode_name}
use Rattle.chi_excerpt.specs.declared.columns.Widths.{Widths}
use Rattle.chi_trace.specs.Fields.{opcode_of}
use Rattle.chi_trace.specs.declared.operation.Operation.{Operation}
use Rattle.chi_excerpt.specs.Bar.{bar_text}
use Rattle.chi_excerpt.specs.Columns.{left_text, number_text, until_text}
use Rattle.chi_excerpt.specs.Operands.{order_text, place_text, returned_text, sent_text}

-- when an operation was under way, on a line from one time to another
unfoldable pub when_text : ℕ → ℕ → ℕ → Widths → Operation → List ℕ
when_text sign from to w row =
    bar_text sign from to row.start row.end ++ (codes "  " ++ (number_text row.start w.start
    ++ (codes " " ++ left_text (until_text row.end) w.until)))

-- what it was
unfoldable pub what_text : Widths → Operation → List ℕ
what_text w row =
    codes "  " ++ (left_text (opcode_name (opcode_of row.access.kind)) w.name ++ (place_text row.access ++ (sent_text row.access
    ++ (returned_text row.access row.reply ++ order_text row.access))))

-- whose it was
unfoldable pub whose_text : Operation → List ℕ
whose_text row = codes "  requester " ++ decimal row.src ++ codes " txn " ++ decimal row.txn ++ codes "\n"

-- what a part of the input is called, and its number in a column of this width
unfoldable pub numbered_text : List ℕ → ℕ → ℕ → List ℕ
numbered_text label n width = label ++ (codes " " ++ number_text n width)

-- The line of a row: the one that is blamed has a mark and a sign of its own. The label is what the input's parts are called.
unfoldable pub row_text : List ℕ → Bool → ℕ → ℕ → Widths → Operation → List ℕ
row_text label is_blamed from to w row =
    (if is_blamed then codes "  > " else codes "    ") ++ (numbered_text label row.number w.number
    ++ (codes " " ++ (when_text (if is_blamed then 35 else 61) from to w row ++ (what_text w row ++ whose_text row))))
