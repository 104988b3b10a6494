-- from the positions before the place they cannot come next in turn
use Rattle.std.proofs.Common.{All, take}
use Rattle.chi_search.proofs.InTurn.{NoneComes}
use Rattle.chi_search.proofs.frontier.Frontier.after.Given as goal

abbrev pub invariant-loop-place : goal.invariant-loop-place
invariant-loop-place l = All (NoneComes l.self.operations l.order) (take l.place l.self.positions)
