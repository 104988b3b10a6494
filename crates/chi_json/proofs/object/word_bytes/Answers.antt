-- one word more
use Rattle.std.proofs.Common.{◌++◌, ap, ◌∙◌}
use Rattle.chi_lanes.proofs.StdBytes.{to_le_bytes_is}
use Rattle.chi_json.proofs.ObjectLemmas.{word_more}
use Rattle.chi_json.proofs.object.word_bytes.Goals as goal

pub loop-word-preserved : goal.loop-word-preserved
loop-word-preserved c =
    word_more c.args.words.now c.loop-word.word-index _ c.loop-word.bytes.items _ c.loop-word-test.true c.loop-word.invariant
    (c.in_ok-extend_from_slice.ensures.items ∙ ap (λ l. c.loop-word.bytes.items ++ l) (c.to_le_bytes.ensures ∙ to_le_bytes_is _))
