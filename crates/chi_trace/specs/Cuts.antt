-- what had happened by a time
use Rattle.std.specs.Prelude.{ℕ, nat_le, Bool, if◌then◌else◌, List, map, None}
use Rattle.std.specs.List.{filter}
use Rattle.chi_trace.specs.declared.operation.Operation.{Operation}

-- it had started by a time, the time itself included
abbrev pub has_started : ℕ → Operation → Bool
has_started time op = nat_le op.start time

-- what was known of it then: its reply, where it had ended
abbrev pub operation_at : ℕ → Operation → Operation
operation_at time op = if nat_le op.end time then op else record op { reply = None }

-- the operations that had started by a time, with the replies of those that had ended
abbrev pub cut : ℕ → List Operation → List Operation
cut time trace = map (operation_at time) (filter (has_started time) trace)
