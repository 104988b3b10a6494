-- the lines so far
use Rattle.std.proofs.Common.{◌≡◌, ◌++◌, flat_map, take}
use Rattle.chi_excerpt.specs.Excerpts.{legal_line}
use Rattle.chi_excerpt.proofs.excerpt.add_each_legal.Given as goal

abbrev pub invariant-loop-reply : goal.invariant-loop-reply
invariant-loop-reply l = l.to.items ≡ l.initial.to.items ++ flat_map (legal_line l.row) (take l.reply-index l.legal)
