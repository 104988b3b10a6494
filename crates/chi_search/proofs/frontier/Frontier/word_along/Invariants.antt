-- from none of the positions so far they fit
use Rattle.std.proofs.Common.{◌≡◌, ℕ, ◌<◌, All, length, take}
use Rattle.chi_trace.specs.Granules.{Play}
use Rattle.chi_search.specs.Positions.{Position}
use Rattle.chi_search.proofs.Elements.{SomeOf}
use Rattle.chi_search.proofs.frontier.Frontier.word_along.Given as goal

abbrev pub invariant-loop-place : goal.invariant-loop-place
invariant-loop-place l =
    All (λ i. i < length l.self.operations) l.order → SomeOf (λ (p : Position). Play l.self.operations p.word l.order) (take l.place l.self.positions) → ⊥
