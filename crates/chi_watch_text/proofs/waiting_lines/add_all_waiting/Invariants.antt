-- the lines so far
use Rattle.std.proofs.Common.{◌≡◌, ◌++◌, flat_map, take}
use Rattle.chi_watch_text.specs.Texts.{waiting_line}
use Rattle.chi_watch_text.proofs.waiting_lines.add_all_waiting.Given as goal

abbrev pub invariant-loop-it : goal.invariant-loop-it
invariant-loop-it l = l.to.items ≡ l.initial.to.items ++ flat_map waiting_line (take l.it-index l.waiting)
