-- the operation is one of a trace
use Rattle.std.proofs.Common.{◌≡◌, length, sym, ap, ◌∙◌}
use Rattle.std.proofs.lemmas.Bool.{lt-ltb}
use Rattle.chi_trace.specs.Explains.{at}
use Rattle.chi_trace.specs.Granules.{next}
use Rattle.chi_trace.proofs.Orders.{observed_at}
use Rattle.chi_trace.proofs.Traced.{at_read}
use Rattle.chi_page.proofs.granule.word_after.Goals as goal

pub apply_operation-after-requires : goal.apply_operation-after-requires
apply_operation-after-requires c =
    let ops = c.args.ops.now in
    let place = c.args.place in
    let read : at ops place ≡ c.index-ops-place.result = at_read ops place c.index-ops-place.result c.requires.place c.index-ops-place.is in
    rw (← read) ((observed_at ops place c.requires.traced (lt-ltb place (length ops) c.requires.place)).within)

pub returns : goal.returns
returns c =
    let ops = c.args.ops.now in
    let place = c.args.place in
    let read : at ops place ≡ c.index-ops-place.result = at_read ops place c.index-ops-place.result c.requires.place c.index-ops-place.is in
    c.apply_operation-after.ensures.word ∙ ap (λ op. next op c.args.word) (sym read)
