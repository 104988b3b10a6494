-- what is judged of the operations so far
use Rattle.std.proofs.Common.{◌≡◌, List, flat_map, take}
use Rattle.chi_events.specs.declared.event.Event.{Event}
use Rattle.chi_watch.specs.Judged.{judged_part}
use Rattle.chi_watch.specs.Watches.{HasTaken}
use Rattle.chi_watch_text.proofs.recorded.judged_operations.Given as goal

abbrev pub invariant-loop-op : goal.invariant-loop-op
invariant-loop-op l = (events : List Event) → HasTaken events l.watch → l.judged.items ≡ flat_map (judged_part events) (take l.op-index l.ops)
