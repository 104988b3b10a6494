-- the states so far, moved back
use Rattle.std.proofs.Common.{◌≡◌, ◌≤◌, ◌↔◌, length, take}
use Rattle.chi_search.specs.Positions.{Position, back_by}
use Rattle.chi_search.specs.StateSets.{Has, positions}
use Rattle.chi_search.proofs.Elements.{SomeOf}
use Rattle.chi_search.proofs.passing.moved_back.Given as goal

abbrev pub invariant-loop-place : goal.invariant-loop-place
invariant-loop-place l = record {
  has : (p : Position) → Has l.back p ↔ SomeOf (λ (q : Position). p ≡ back_by l.by q) (take l.place (positions l.states));
  count : length (positions l.back) ≤ l.place;
}
