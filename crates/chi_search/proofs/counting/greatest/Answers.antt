-- the mask of the lowest bytes
use Rattle.std.proofs.Common.{arith, pow_pos}
use Rattle.std.proofs.Math.Nat.{pow-zero}
use Rattle.chi_lanes.proofs.Digits.{pow_bytes_pos}
use Rattle.chi_search.proofs.counting.greatest.Goals as goal

pub returns : goal.returns
returns c =
    let number = rw pow-zero at c.lane_mask.ensures.number in
    omega (arith, number, pow_bytes_pos c.args.len)
