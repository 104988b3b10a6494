-- by the events of requests alone
use Rattle.chi_flits.proofs.Among.{accepted_among}
use Rattle.chi_flits.proofs.laws.events_among_others_are_accepted.Goals as goal

pub returns : goal.returns
returns c = accepted_among
