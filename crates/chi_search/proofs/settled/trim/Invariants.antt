-- zeros taken off the end change no word
use Rattle.std.proofs.Common.{◌≡◌, ℕ, length, slice_index}
use Rattle.chi_search.specs.Positions.{words_of}
use Rattle.chi_search.proofs.settled.trim.Given as goal

abbrev pub invariant-loop-settled : goal.invariant-loop-settled
invariant-loop-settled l = (i : ℕ) → slice_index (words_of l.settled) i ≡ slice_index (words_of l.initial.settled) i

abbrev pub decreases-loop-settled : goal.decreases-loop-settled
decreases-loop-settled l = length l.settled.beyond.items
