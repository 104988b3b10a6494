-- what can be taken is a move
use Rattle.chi_search.specs.Paths.{Moves}
use Rattle.chi_search.proofs.narrowest.narrowest_next.Goals as goal

pub returns-then-branch-2-clause-moves : goal.returns-then-branch-2-clause-moves
unfolding Moves
returns-then-branch-2-clause-moves c =
    (c.requires.ready, c.in_ok-take-in-Some.ensures.comes c.if-branch-2.true, c.in_ok-take-in-Some.ensures.takes c.if-branch-2.true, c.in_ok-take-in-Some.ensures.leaves c.if-branch-2.true)
