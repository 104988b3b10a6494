-- Any thread may give a block back to the refusing allocator, as it may to the one inside.
use Rattle.std.proofs.Crossing.{frees}
use Rattle.chi_store_tests.proofs.tests.growth_race_tests.race_ten.Goals as goal

pub race_adding-requires-frees-A-Allocator : goal.race_adding-requires-frees-A-Allocator
race_adding-requires-frees-A-Allocator g c κs within = record { frees = λ a τ p. frees.frees a.now.inner τ p }
