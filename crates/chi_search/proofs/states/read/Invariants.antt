-- the words so far
use Rattle.std.proofs.Common.{◌≡◌, take}
use Rattle.chi_search.proofs.states.read.Given as goal

abbrev pub invariant-loop-word : goal.invariant-loop-word
invariant-loop-word l = record {
  first : l.to.first ≡ l.initial.to.first;
  near : l.to.settled.near ≡ l.initial.to.settled.near;
  word : l.to.word ≡ l.initial.to.word;
  beyond : l.to.settled.beyond.items ≡ take l.word-index l.word-items;
}
