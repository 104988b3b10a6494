-- a map's look-up finds each entry
use Rattle.std.proofs.lemmas.Cmp.{nat_cmp_total}
use Rattle.std.proofs.lemmas.Map.Views.{All-found}
use Rattle.chi_flits.proofs.port.Port.any_waits_for_answer.Goals as goal

pub returns-clause-found : goal.returns-clause-found
returns-clause-found c = rw (← c.self.view_is) (All-found nat_cmp_total c.self.inside.transactions c.values.ensures.ordered)
