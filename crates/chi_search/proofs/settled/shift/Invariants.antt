-- the words that were made so far
use Rattle.std.proofs.Common.{◌≡◌, length}
use Rattle.chi_search.specs.Positions.{words_of}
use Rattle.chi_search.proofs.Bits.{AreFrom}
use Rattle.chi_search.proofs.settled.shift.Given as goal

abbrev pub invariant-loop-word : goal.invariant-loop-word
invariant-loop-word l = record {
  count : length l.to.beyond.items ≡ l.word;
  are : AreFrom (words_of l.settled) l.by (words_of l.to);
}
