-- a data packet is sixteen bytes
use Rattle.std.proofs.Common.{rules}
use Rattle.chi_json.proofs.ObjectLemmas.{bytes_read}
use Rattle.chi_stimulus.proofs.text.fields_are_writable.Goals as goal

pub returns-clause-lanes : goal.returns-clause-lanes
returns-clause-lanes c = bytes_read c.args.lanes 16 (search rules) (λ i. search rules)
