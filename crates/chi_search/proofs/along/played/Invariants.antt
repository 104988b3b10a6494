-- the rest goes on from the word that is left
use Rattle.std.proofs.Common.{◌≡◌, drop}
use Rattle.chi_trace.specs.Granules.{Play, last_word}
use Rattle.chi_search.proofs.along.played.Given as goal

abbrev pub invariant-loop-place : goal.invariant-loop-place
invariant-loop-place l = record {
  forth : Play l.ops l.left (drop l.place-index l.order) → Play l.ops l.word l.order;
  back : Play l.ops l.word l.order → Play l.ops l.left (drop l.place-index l.order);
  last : last_word l.ops l.word l.order ≡ last_word l.ops l.left (drop l.place-index l.order);
}
