-- those that were taken from the iterator, and those that are left, are all, the last that was taken first
use Rattle.std.proofs.Common.{◌≡◌, ◌++◌, reverse}
use Rattle.std.specs.Map.{values_of}
use Rattle.chi_events.proofs.requests.Requests.to_vec.Given as goal

abbrev pub invariant-loop-request : goal.invariant-loop-request
invariant-loop-request l = reverse (l.requests.items ++ values_of l.request-iterator) ≡ l.self
