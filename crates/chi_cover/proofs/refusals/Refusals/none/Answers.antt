-- no reason has a count
use Rattle.chi_cover.specs.Refusals.{refusal_number, refused_in}
use Rattle.chi_cover.proofs.Lists.{zeros}
use Rattle.chi_cover.proofs.refusals.Refusals.none.Goals as goal

pub returns : goal.returns
unfolding refused_in
returns c reason = zeros 6 (refusal_number reason)
