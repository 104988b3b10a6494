-- the script was made, and is flushed, or not
use Rattle.chi_home.proofs.Written.{made}
use Rattle.chi_home.proofs.arguments.end_generate.Goals as goal

pub returns-in-Ok-clause-makes : goal.returns-in-Ok-clause-makes
returns-in-Ok-clause-makes g c = made c.args.options.now _ _ _ c.in-Ok.field-0 _ c.flushed_status.ensures.kept c.in-Ok.ensures c.flushed_status.ensures.status
