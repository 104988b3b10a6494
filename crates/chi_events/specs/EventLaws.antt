-- laws of events
use Rattle.std.specs.Prelude.{List, ◌++◌, filter_map, IsPermutation}
use Rattle.chi_trace.specs.declared.operation.Operation.{Operation}
use Rattle.chi_trace.specs.Explains.{IsTrace}
use Rattle.chi_events.specs.declared.event.Event.{Event}
use Rattle.chi_events.specs.Operations.{operations}
use Rattle.chi_events.specs.Outstanding.{OutstandingValue, Tells, open_operation}

-- The operations that events tell are a trace, and are those that had ended and those that are still open.
abbrev pub OperationsAreTold : Type 0
OperationsAreTold = (events : List Event) (ended : List Operation) (o : OutstandingValue) → Tells events ended o
    → IsTrace (operations events) × IsPermutation (operations events) (ended ++ filter_map open_operation o.requests)
