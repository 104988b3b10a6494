-- the first states of the words so far
use Rattle.std.proofs.Common.{◌≡◌, ◌↔◌, take}
use Rattle.chi_search.specs.Positions.{Position, start}
use Rattle.chi_search.specs.StateSets.{Has}
use Rattle.chi_search.proofs.Elements.{SomeOf}
use Rattle.chi_search.proofs.layer.first_layer.Given as goal

abbrev pub invariant-loop-word : goal.invariant-loop-word
invariant-loop-word l = (p : Position) → Has l.layer p ↔ SomeOf (λ w. p ≡ start w) (take l.word-index l.words)
