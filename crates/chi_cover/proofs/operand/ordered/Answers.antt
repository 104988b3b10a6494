-- a number that fits is spelled by its bytes
use Rattle.chi_lanes.proofs.CombineLemmas.{number_in-little_bytes}
use Rattle.chi_cover.proofs.operand.ordered.Goals as goal

pub returns-else-endian : goal.returns-else-endian
returns-else-endian c = rw c.if-endian.false (number_in-little_bytes c.args.len c.args.value c.requires.fits)
