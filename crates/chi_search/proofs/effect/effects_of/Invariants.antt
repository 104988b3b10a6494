-- what is known of each operation so far
use Rattle.std.proofs.Common.{◌≡◌, length}
use Rattle.chi_search.specs.Effects.{AreEffects}
use Rattle.chi_search.proofs.effect.effects_of.Given as goal

abbrev pub invariant-loop-op : goal.invariant-loop-op
invariant-loop-op l = record {
  are : AreEffects l.ops l.effects.items;
  each : length l.effects.items ≡ l.op-index;
}
