-- how much events tell
use Rattle.std.specs.Prelude.{◌≡◌, ℕ, ◌-◌, ◌^◌, min, not, length, count_by, is_some, List, filter, filter_map}
use Rattle.chi_events.specs.declared.event.Event.{Event}
use Rattle.chi_events.specs.Operations.{is_outstanding, operation_of}
use Rattle.chi_events.specs.RequestEvents.{each_request}
use Rattle.chi_trace.specs.declared.operation.Operation.{Operation}
use Rattle.chi_watch.specs.Watches.{WatchValue}
use Rattle.chi_watch.specs.declared.counts.Counts.{Counts}

-- the operations that had ended
abbrev pub ended_operations : List Event → List Operation
ended_operations events = filter_map operation_of (filter (λ t. not (is_outstanding t)) (each_request events))

-- so many operations had ended by the events, and so many requests are outstanding
pub record AreCounted (events : List Event) (c : Counts) : Type 0 where
  pub ended : c.ended ≡ min (length (ended_operations events)) (2 ^ 64 - 1)
  pub outstanding : c.outstanding ≡ length (filter is_outstanding (each_request events))

-- how many granules are not judged: 2^64 - 1 stands for that many and more
abbrev pub unjudged : WatchValue → ℕ
unjudged w = min (count_by (λ e. is_some e.1.unknown_since) w.granules) (2 ^ 64 - 1)
