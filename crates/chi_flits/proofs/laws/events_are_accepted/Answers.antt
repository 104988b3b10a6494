-- by induction over the flits
use Rattle.chi_flits.proofs.Accepted.{accepted}
use Rattle.chi_flits.proofs.laws.events_are_accepted.Goals as goal

pub returns : goal.returns
returns c = accepted
