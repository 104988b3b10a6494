-- the bytes of the first words
use Rattle.std.proofs.Common.{◌≡◌, take}
use Rattle.chi_json.specs.Object.{word_bytes}
use Rattle.chi_json.proofs.object.word_bytes.Given as goal

abbrev pub invariant-loop-word : goal.invariant-loop-word
invariant-loop-word l = l.bytes.items ≡ word_bytes (take l.word-index l.words)
