-- what is settled and noted changes nothing of what is known
use Rattle.std.proofs.Common.{◌++◌, ◌∷◌, [], sym, subst}
use Rattle.std.specs.Prelude.{option_to_list}
use Rattle.chi_watch.specs.Watches.{Watches}
use Rattle.chi_watch.proofs.watch.Watch.step_on.Goals as goal

pub returns-clause-taken : goal.returns-clause-taken
returns-clause-taken g c events past was =
    let more = events ++ c.args.event.now ∷ [] in
    let told = past ++ option_to_list c.in_ok-ended.ended in
    subst (Watches more told) (sym c.in_ok-note_quiet.ensures) (c.in_ok-settle_next.ensures.watches more told (c.in_ok-ended.ensures.taken events past was))
