-- the text of where a trace stops being explained
use Rattle.std.specs.Prelude.{ℕ, nat_lt, List, ◌++◌, codes, length, if◌then◌else◌}
use Rattle.std.specs.List.{filter}
use Rattle.chi_judge.specs.Shown.{last_of}
use Rattle.chi_judge.specs.declared.reach.Stop.{Stop}
use Rattle.chi_trace.specs.AtPlaces.{at_places}
use Rattle.chi_trace.specs.Granules.{is_of}
use Rattle.chi_trace.specs.declared.operation.Operation.{Operation}
use Rattle.chi_reading.specs.TraceText.{RecordedValue}
use Rattle.chi_verdict.specs.declared.first.Blame.{Blame}
use Rattle.chi_answer.specs.Texts.{blame_text}
use Rattle.chi_excerpt.specs.Excerpts.{excerpt_text, order_line}
use Rattle.chi_excerpt.specs.Writers.{writers_text}

-- how the last of an order are told
abbrev pub order_words : ℕ → ℕ → List ℕ
order_words most count = if nat_lt most count then codes " in an order that ends with requests" else codes " in this order: requests"

-- the last so many of an order that explains a granule's operations up to the time before
abbrev pub last_operations : RecordedValue → ℕ → List ℕ → List Operation
last_operations r most order = at_places r.trace.operations (last_of most order)

-- the line of these, and which of them wrote the wrong bytes last
abbrev pub last_lines : RecordedValue → ℕ → Stop → List ℕ → List ℕ
last_lines r most s order =
    order_line (order_words most (length order)) s.time (last_operations r most order) ++ writers_text (codes "request") s (last_operations r most order)

-- what an order of the whole trace has of a granule
abbrev pub order_in : RecordedValue → ℕ → List ℕ → List ℕ
order_in r g order = filter (is_of r.trace.operations g) order

-- what is said of where it stops, the operations around that, and the last so many of the order before
abbrev pub failure_text : RecordedValue → ℕ → Blame → List ℕ
failure_text r most blame =
    blame_text blame ++ (excerpt_text (codes "request") blame.stop ++ last_lines r most blame.stop (order_in r blame.granule blame.order.items))
