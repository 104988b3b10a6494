-- each reason has its own count
use Rattle.chi_cover.specs.Refusals.{refusal_number, refused_in, refused_times}
use Rattle.chi_cover.proofs.Reasons.{number_below}
use Rattle.chi_cover.proofs.refusals.Refusals.add.Goals as goal

pub returns : goal.returns
unfolding refused_in refused_times
returns c reason = rw (← c.self.view_is) (c.add_each.ensures.each (refusal_number reason) (rw c.self.told (number_below reason)))
