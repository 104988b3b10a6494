-- the lines of an order, one operation after the other
use Rattle.std.proofs.Common.{◌≡◌, ℕ, ◌+◌, ◌<◌, ◌≤◌, List, ◌++◌, append_assoc, append-nil, drop, get_or, length, ap, sym, ◌∙◌}
use Rattle.std.proofs.lemmas.List.{drop_all, drop_more}
use Rattle.chi_trace.specs.declared.operation.Operation.{Operation}
use Rattle.chi_excerpt.specs.declared.wrong_bytes.ReturnedByte.{ReturnedByte}
use Rattle.chi_excerpt.specs.Writers.{last_written, writer_line, writer_lines}

-- the lines of those that are left begin with the next one's
pub next_line : (label : List ℕ) (bytes : List ReturnedByte) (order : List Operation) (i : ℕ) (d : Operation) → i < length order
    → writer_lines label bytes (drop i order)
    ≡ writer_line label (get_or order i d).number (last_written bytes (get_or order i d) (drop (i + 1) order)) ++ writer_lines label bytes (drop (i + 1) order)
unfolding writer_lines
next_line label bytes order i d below = ap (writer_lines label bytes) (drop_more order i d below)

-- its line is added, and the others are left
pub line_more : (label : List ℕ) (bytes : List ReturnedByte) (order : List Operation) (i : ℕ) (d : Operation) (whole before after : List ℕ) → i < length order
    → before ++ writer_lines label bytes (drop i order) ≡ whole
    → after ≡ before ++ writer_line label (get_or order i d).number (last_written bytes (get_or order i d) (drop (i + 1) order))
    → after ++ writer_lines label bytes (drop (i + 1) order) ≡ whole
line_more label bytes order i d whole before after below so_far added =
    let op = get_or order i d in
    let line = writer_line label op.number (last_written bytes op (drop (i + 1) order)) in
    let left = writer_lines label bytes (drop (i + 1) order) in
    ap (λ t. t ++ left) added ∙ (append_assoc before line left ∙ (ap (λ t. before ++ t) (sym (next_line label bytes order i d below)) ∙ so_far))

-- none is left
pub all_lines : (label : List ℕ) (bytes : List ReturnedByte) (order : List Operation) (i : ℕ) (whole text : List ℕ) → length order ≤ i
    → text ++ writer_lines label bytes (drop i order) ≡ whole → text ≡ whole
unfolding writer_lines
all_lines label bytes order i whole text past so_far =
    sym (append-nil text) ∙ (ap (λ ops. text ++ writer_lines label bytes ops) (sym (drop_all i order past)) ∙ so_far)
