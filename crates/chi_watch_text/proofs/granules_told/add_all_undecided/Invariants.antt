-- the lines so far
use Rattle.std.proofs.Common.{◌≡◌, ◌++◌, flat_map, take}
use Rattle.chi_watch_text.specs.Written.{undecided_text}
use Rattle.chi_watch_text.proofs.granules_told.add_all_undecided.Given as goal

abbrev pub invariant-loop-it : goal.invariant-loop-it
invariant-loop-it l = l.to.items ≡ l.initial.to.items ++ flat_map (undecided_text l.format l.budget) (take l.it-index l.undecided)
