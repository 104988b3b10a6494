-- the whole word is a run
use Rattle.std.proofs.Common.{refl, arith}
use Rattle.chi_search.specs.Positions.{position_of}
use Rattle.chi_search.proofs.Within.{dead_within}
use Rattle.chi_search.proofs.moving.is_seen_dead.Goals as goal

pub lacks_maker-requires-clause-run : goal.lacks_maker-requires-clause-run
lacks_maker-requires-clause-run c = record { lane = 0; len = 8; some = omega arith; room = omega arith; number = refl }

pub returns : goal.returns
returns c is =
    dead_within _ c.args.problem.now.ops.now c.args.problem.now.final_word (position_of c.args.state.now) (omega arith) (c.lacks_maker.ensures is)
