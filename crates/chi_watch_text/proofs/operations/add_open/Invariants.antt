-- the operations of the first requests were added
use Rattle.std.proofs.Common.{◌≡◌, ◌++◌, filter_map, take}
use Rattle.chi_events.specs.Outstanding.{open_operation}
use Rattle.chi_watch_text.proofs.operations.add_open.Given as goal

abbrev pub invariant-loop-request : goal.invariant-loop-request
invariant-loop-request l = l.ops.items ≡ l.initial.ops.items ++ filter_map open_operation (take l.request-index l.requests)
