-- as many racers as turns so far, with no line
use Rattle.std.proofs.Common.{◌≡◌, [], length, All}
use Rattle.chi_engine.proofs.race.racers_by.Given as goal

abbrev pub invariant-loop : goal.invariant-loop
invariant-loop g l = record {
  none : All (λ racer. racer.lines.items ≡ []) l.racers.items;
  count : length l.racers.items ≡ l.counter;
}
