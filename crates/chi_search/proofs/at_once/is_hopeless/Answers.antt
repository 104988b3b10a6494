-- a state that is dead in all bits
use Rattle.std.proofs.Common.{arith}
use Rattle.chi_search.specs.Positions.{position_of}
use Rattle.chi_search.proofs.Within.{dead_within}
use Rattle.chi_search.proofs.at_once.is_hopeless.Goals as goal

pub returns : goal.returns
returns c is = dead_within _ c.args.problem.now.ops.now c.args.problem.now.final_word (position_of c.args.state.now) (omega arith) (c.lacks_maker.ensures is)
