-- The shift drops the lanes below the operand and the mask those above it.
use Rattle.std.proofs.Common.{◌∙◌, arith, mod-lt}
use Rattle.chi_lanes.proofs.Digits.{pow_bytes_pos}
use Rattle.chi_lanes.proofs.Masks.{extract_number, extract_lanes}
use Rattle.chi_lanes.proofs.kernels.extract.Goals as goal

pub returns-clause-value : goal.returns-clause-value
returns-clause-value c =
    extract_number c.args.word c.args.lane c.args.len (omega arith) ∙ extract_lanes c.args.word c.args.lane c.args.len c.requires.room

pub returns-clause-below : goal.returns-clause-below
returns-clause-below c =
    rw (extract_number c.args.word c.args.lane c.args.len (omega arith)) (mod-lt _ (pow_bytes_pos c.args.len))
