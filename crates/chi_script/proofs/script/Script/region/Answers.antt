-- the region of the value
use Rattle.std.proofs.Common.{rules}
use Rattle.chi_script.proofs.script.Script.region.Goals as goal

pub returns : goal.returns
returns c = search rules steps 1000000
