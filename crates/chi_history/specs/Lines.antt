-- what the lines of a transcript report of a history
use Rattle.std.specs.Prelude.{ℕ, ◌==◌, Bool, false, List, [], ◌∷◌, Option, None, Some, Result, Ok, Err, count_by}
use Rattle.std.specs.List.{flat_map}
use Rattle.chi_fields.specs.declared.refusal.Refusal.{Refusal}
use Rattle.chi_fields.specs.declared.request.Request.{Request}
use Rattle.chi_fields.specs.Extent.{Extent, granule_of}
use Rattle.chi_fields.specs.Access.{Access}
use Rattle.chi_fields.specs.Refusal.{access_of, decision}
use Rattle.chi_lanes.specs.declared.reply.Reply.{Reply}
use Rattle.chi_lanes.specs.After.{after, answer}
use Rattle.chi_lanes.specs.Memory.{Memory}
use Rattle.chi_history.specs.declared.entry.Entry.{Entry}
use Rattle.chi_history.specs.declared.line.Line.{Line}
use Rattle.chi_history.specs.declared.line.Line.TheVariants.{Completed, Refused, Retried}
use Rattle.chi_history.specs.HomeClauses.{entry}

-- the entry of a completed request, where it describes an access
abbrev pub entry_of : Request → Reply → Option Access → List Entry
entry_of q reply None = []
entry_of q reply (Some a) = entry q.src a reply ∷ []

abbrev pub line_entries : Line → List Entry
line_entries (Completed q reply) = entry_of q reply (access_of q)
line_entries (Refused q fault) = []
line_entries (Retried q) = []

-- the entries of the completed requests, in order
abbrev pub entries : List Line → List Entry
entries lines = flat_map line_entries lines

abbrev pub is_in_granule : Extent → ℕ → Option Access → Bool
is_in_granule region g None = false
is_in_granule region g (Some a) = granule_of a.addr region == g

-- the line is a RetryAck to a request for this granule
abbrev pub is_retried : Extent → ℕ → Line → Bool
is_retried region g (Completed q reply) = false
is_retried region g (Refused q fault) = false
is_retried region g (Retried q) = is_in_granule region g (access_of q)

-- how many RetryAcks there were to requests for this granule
abbrev pub retried : Extent → List Line → ℕ → ℕ
retried region lines g = count_by (is_retried region g) lines

-- the line of a request of which this is decided, at a memory
abbrev pub serial_line : Result Access Refusal → Request → Memory → Line
serial_line (Ok a) q m = Completed q (answer a m)
serial_line (Err fault) q m = Refused q fault

-- the memory after it
abbrev pub serial_after : Result Access Refusal → Memory → Memory
serial_after (Ok a) m = after a m
serial_after (Err fault) m = m

-- the lines of requests that are executed one after another, from a memory on
unfoldable pub serial : Extent → List Request → Memory → List Line
serial region [] m = []
serial region (q ∷ qs) m = serial_line (decision q region) q m ∷ serial region qs (serial_after (decision q region) m)

-- the memory after these requests
unfoldable pub serial_end : Extent → List Request → Memory → Memory
serial_end region [] m = m
serial_end region (q ∷ qs) m = serial_end region qs (serial_after (decision q region) m)
