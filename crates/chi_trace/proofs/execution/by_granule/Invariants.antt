-- the words so far
use Rattle.std.proofs.Common.{◌≡◌, ℕ, take}
use Rattle.std.specs.BTreeMap.{get}
use Rattle.std.specs.Ordering.{nat_cmp}
use Rattle.chi_trace.specs.Words.{find_word}
use Rattle.chi_trace.proofs.execution.by_granule.Given as goal

abbrev pub invariant-loop-told : goal.invariant-loop-told
invariant-loop-told l = (g : ℕ) → get nat_cmp l.map g ≡ find_word (take l.told-index l.told-items) g
