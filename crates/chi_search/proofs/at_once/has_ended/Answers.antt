-- a state at which none is left
use Rattle.chi_search.specs.Positions.{position_of}
use Rattle.chi_search.proofs.Layers.{has_at}
use Rattle.chi_search.proofs.Moves.{ended}
use Rattle.chi_search.proofs.at_once.has_ended.Goals as goal

pub returns-then-is_ended : goal.returns-then-is_ended
returns-then-is_ended c _ =
    let state = position_of c.read.new.to in (
      state,
      has_at c.args.from.now c.loop-place.place state c.in_ok-read.ensures,
      ended c.args.ops.now c.args.final_word state (c.is_ended.ensures.none c.if-is_ended.true) (c.is_ended.ensures.word c.if-is_ended.true),
    )
