-- none so far
use Rattle.std.proofs.Common.{◌≡◌, ◌==◌, false, take}
use Rattle.std.specs.List.{list_any}
use Rattle.chi_trace.specs.Explains.{at}
use Rattle.chi_cover.specs.Numbers.{transaction_number}
use Rattle.chi_cover.specs.Traffic.{transaction_of}
use Rattle.chi_cover.proofs.traffic.has_transaction.Given as goal

abbrev pub invariant-loop-place : goal.invariant-loop-place
invariant-loop-place l = list_any (λ j. transaction_number (transaction_of (at l.ops j).access.kind) == l.number) (take l.place-index l.places) ≡ false
