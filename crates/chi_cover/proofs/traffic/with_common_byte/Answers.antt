-- each operation lies within 2^52 bytes
use Rattle.std.proofs.Common.{◌<◌, get_or, length}
use Rattle.std.proofs.lemmas.List.{get_or_default}
use Rattle.chi_trace.specs.Explains.{nothing}
use Rattle.chi_cover.proofs.Traced.{within_at}
use Rattle.chi_cover.proofs.traffic.with_common_byte.Goals as goal

pub have_common_byte-requires-clause-within : goal.have_common_byte-requires-clause-within
have_common_byte-requires-clause-within c =
    let ops = c.args.ops.now in
    let j = get_or c.args.places.now c.loop-place.place-index 0 in
    let below : j < length ops = c.requires.places c.loop-place.place-index 0 c.loop-place-test.true in
    within_at ops j (get_or ops j c.index-ops-place.result) c.requires.traced below (get_or_default ops j c.index-ops-place.result nothing below)
