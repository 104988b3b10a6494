-- the words so far, and those that are still to come
use Rattle.std.proofs.Common.{◌≡◌, ◌++◌, map}
use Rattle.chi_trace.specs.Words.{AreWords}
use Rattle.chi_trace.proofs.Entries.{word_of_entry}
use Rattle.chi_trace.proofs.words.GranuleWords.of_map.Given as goal

abbrev pub invariant-loop-granule : goal.invariant-loop-granule
invariant-loop-granule l = record {
  words : l.words.items ++ map word_of_entry l.granule-iterator ≡ map word_of_entry l.map.entries;
  each : AreWords l.words.items;
}
