-- so many bytes are a run
use Rattle.chi_search.specs.Within.{IsDeadWithin}
use Rattle.chi_search.proofs.DeadStates.{none_of}
use Rattle.chi_search.proofs.part.part_from.Goals as goal

pub returns : goal.returns
returns c ops final_word = record {
  run = record { lane = c.args.byte; len = c.args.len; some = c.requires.some; room = c.requires.room; number = c.lane_mask.ensures.number };
  dead = none_of (IsDeadWithin c.lane_mask.result ops final_word) c.no_states.result c.no_states.ensures;
}
