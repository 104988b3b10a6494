-- by the kinds that opcodes name, and the sizes of the profile
use Rattle.chi_trace.proofs.Fields.{fields_told}
use Rattle.chi_trace.proofs.laws.fields_are_told.Goals as goal

pub returns : goal.returns
returns c = fields_told
