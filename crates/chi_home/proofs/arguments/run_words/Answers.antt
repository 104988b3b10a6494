-- What comes of the arguments is what came of what they ask for.
use Rattle.std.proofs.Common.{inr, map, string_bytes}
use Rattle.chi_home.proofs.TaskLemmas.{came_of}
use Rattle.chi_home.proofs.arguments.run_words.Goals as goal

pub returns-in-Ok-clause-outcome : goal.returns-in-Ok-clause-outcome
returns-in-Ok-clause-outcome g c =
    let chosen = c.in-Ok.ensures in
    inr (came_of (map string_bytes c.args.arguments.now) c.in-Ok.job _ _ _ _ chosen.taken chosen.chosen chosen.attempts c.end_asked.ensures.ends)
