-- what became of a request is its text
use Rattle.std.proofs.Common.{rules}
use Rattle.chi_script.proofs.transcript.put_outcome.Goals as goal

pub returns-in-Retried : goal.returns-in-Retried
returns-in-Retried g c = search rules steps 1000000
