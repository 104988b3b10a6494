-- the signed order is the order of the numbers with their sign bits turned
use Rattle.chi_lanes.proofs.Digits.{length-little_bytes}
use Rattle.chi_lanes.proofs.SignedLemmas.{sign_is, signed_order}
use Rattle.chi_lanes.proofs.combination.is_less_signed.Goals as goal

pub returns : goal.returns
returns c =
    rw (
      sign_is c.args.len c.requires.some c.requires.most,
      length-little_bytes c.args.len c.args.x,
      length-little_bytes c.args.len c.args.y,
      ← c.ordered.ensures.number,
      ← c.ordered-2.ensures.number,
    )
    (signed_order c.args.len c.ordered.result c.ordered-2.result c.requires.some c.ordered.ensures.below c.ordered-2.ensures.below)
