-- each word is the number of its chunk
use Rattle.std.proofs.Common.{◌∙◌, arith}
use Rattle.chi_json.proofs.WordLemmas.{words_more}
use Rattle.chi_json.proofs.words.words.Goals as goal

pub loop-chunk-preserved : goal.loop-chunk-preserved
loop-chunk-preserved c =
    rw (c.in_ok-push.was, c.loop-chunk.invariant) at c.push.ensures.items
    ∙ words_more c.args.bytes.now c.as_chunks.result.0.now c.loop-chunk.chunk-index c.from_le_bytes.result _
    c.as_chunks.ensures.front (λ i. omega (arith, c.type_inv.bytes i)) c.loop-chunk-test.true (omega arith) c.from_le_bytes.ensures
