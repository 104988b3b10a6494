-- the events of the first slots were added
use Rattle.std.proofs.Common.{◌≡◌, ◌++◌, flat_map, take}
use Rattle.chi_points.specs.Points.{told_at}
use Rattle.chi_points.proofs.telling.add_told.Given as goal

abbrev pub invariant-loop-slot : goal.invariant-loop-slot
invariant-loop-slot l = l.events.items ≡ l.initial.events.items ++ flat_map (told_at l.noted) (take l.slot-index l.slots)
