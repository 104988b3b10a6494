-- all bits of the counter are found
use Rattle.std.proofs.Common.{slice_index_or}
use Rattle.chi_search.specs.Effects.{no_effect}
use Rattle.chi_search.proofs.Reach.{has_part}
use Rattle.chi_search.proofs.counting.finds_beyond.Goals as goal

pub returns-clause-found : goal.returns-clause-found
returns-clause-found c _ =
    has_part (slice_index_or c.args.problem.now.effects.now c.args.place no_effect).found_mask c.args.bits c.if-effect-bits.false
