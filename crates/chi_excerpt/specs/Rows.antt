-- how wide the columns of rows are, and when they start
use Rattle.std.specs.Prelude.{ℕ, max, min, length, List, decimal}
use Rattle.std.specs.List.{fold}
use Rattle.chi_fields.specs.Opcode.{opcode_name}
use Rattle.chi_trace.specs.Fields.{opcode_of}
use Rattle.chi_trace.specs.declared.operation.Operation.{Operation}
use Rattle.chi_excerpt.specs.declared.columns.Widths.{Widths}
use Rattle.chi_excerpt.specs.Columns.{until_text}

-- the greatest of these numbers of the rows
abbrev pub greatest : (Operation → ℕ) → List Operation → ℕ
greatest f rows = fold (λ most row. max most (f row)) 0 rows

-- each column is as wide as the longest text in it
abbrev pub widths_of : List Operation → Widths
widths_of rows = record {
  number = greatest (λ row. length (decimal row.number)) rows;
  start = greatest (λ row. length (decimal row.start)) rows;
  until = greatest (λ row. length (until_text row.end)) rows;
  name = greatest (λ row. length (opcode_name (opcode_of row.access.kind))) rows;
}

-- when the first of them started, if that is before a time
abbrev pub first_start : ℕ → List Operation → ℕ
first_start time rows = fold (λ least row. min least row.start) time rows
