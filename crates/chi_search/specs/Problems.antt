-- the problem that a search of one granule solves
use Rattle.chi_search.specs.declared.problem.Problem.{Problem}
use Rattle.chi_search.specs.Effects.{AreEffects}
use Rattle.chi_search.specs.Paths.{AreEarliest}
use Rattle.chi_search.specs.Searchable.{AreSorted, AreWithin}

-- the operations can be searched, and the effects and the earliest starts are theirs
pub record IsProblem (problem : Problem) : Type 0 where
  pub sorted : AreSorted problem.ops.now
  pub within : AreWithin problem.ops.now
  pub effects : AreEffects problem.ops.now problem.effects.now
  pub earliest : AreEarliest problem.ops.now problem.earliest.now
