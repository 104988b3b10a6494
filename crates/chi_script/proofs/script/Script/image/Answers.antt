-- the image of the value
use Rattle.std.proofs.Common.{rules}
use Rattle.chi_script.proofs.script.Script.image.Goals as goal

pub returns-clause-words : goal.returns-clause-words
returns-clause-words c = search rules steps 1000000
