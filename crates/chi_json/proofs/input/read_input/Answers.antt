-- an input is the bytes read, when a read gives none
use Rattle.std.proofs.Common.{rules}
use Rattle.chi_json.proofs.input.read_input.Goals as goal

pub returns-in-Ok-eq0-clause-bytes : goal.returns-in-Ok-eq0-clause-bytes
returns-in-Ok-eq0-clause-bytes g c = search rules steps 1000000
