-- the words of the states so far
use Rattle.std.proofs.Common.{◌≡◌, ◌≢◌, ℕ, ◌↔◌, take}
use Rattle.std.specs.List.{AllPairs, Contains}
use Rattle.chi_search.specs.Positions.{Position}
use Rattle.chi_search.specs.StateSets.{positions}
use Rattle.chi_search.proofs.Elements.{SomeOf}
use Rattle.chi_search.proofs.layer.words_in.Given as goal

abbrev pub invariant-loop-place : goal.invariant-loop-place
invariant-loop-place l = record {
  words : (w : ℕ) → Contains l.words.items w ↔ SomeOf (λ (p : Position). p.word ≡ w) (take l.place (positions l.layer));
  once : AllPairs (λ v w. v ≢ w) l.words.items;
}
