-- the words and the replies of the operations so far
use Rattle.std.proofs.Common.{◌≡◌, ℕ, take}
use Rattle.std.specs.BTreeMap.{get}
use Rattle.std.specs.Option.{is_some, unwrap_or}
use Rattle.std.specs.Ordering.{nat_cmp}
use Rattle.chi_trace.specs.Explains.{memory_after, word_of}
use Rattle.chi_trace.specs.Executions.{is_known, replies_in}
use Rattle.chi_trace.specs.Words.{memory_of}
use Rattle.chi_trace.proofs.execution.execute.Given as goal

abbrev pub invariant-loop-place : goal.invariant-loop-place
invariant-loop-place l = record {
  known : (g : ℕ) → is_some (get nat_cmp l.words g) ≡ is_known l.trace (take l.place-index l.order) g;
  words : (g : ℕ) → unwrap_or (get nat_cmp l.words g) 0 ≡ word_of (memory_after l.trace.operations (memory_of l.trace.opening) (take l.place-index l.order)) g;
  replies : l.replies.items ≡ replies_in l.trace.operations (memory_of l.trace.opening) (take l.place-index l.order);
}
