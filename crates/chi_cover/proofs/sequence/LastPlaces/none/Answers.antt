-- nothing of maps without entries
use Rattle.std.proofs.Common.{refl}
use Rattle.chi_cover.specs.Sequences.{last_with}
use Rattle.chi_cover.proofs.sequence.LastPlaces.none.Goals as goal

pub returns : goal.returns
unfolding last_with
returns c trace = record { granules = λ k. rw c.new.ensures.empty refl; lines = λ k. rw c.new-2.ensures.empty refl }
