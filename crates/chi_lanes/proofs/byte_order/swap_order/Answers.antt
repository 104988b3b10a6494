-- the word's bytes turned, and shifted down to the operand's
use Rattle.chi_lanes.proofs.SwapLemmas.{swapped, swapped-below}
use Rattle.chi_lanes.proofs.byte_order.swap_order.Goals as goal

pub returns-clause-reversed : goal.returns-clause-reversed
returns-clause-reversed c =
    rw c.swap_bytes.ensures (swapped c.args.len c.args.value c.requires.most c.requires.fits)

pub returns-clause-below : goal.returns-clause-below
returns-clause-below c =
    rw c.swap_bytes.ensures (rw (swapped c.args.len c.args.value c.requires.most c.requires.fits) (swapped-below c.args.len c.args.value))
