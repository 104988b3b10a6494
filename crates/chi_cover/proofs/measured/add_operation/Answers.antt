-- the bins of an operation by itself, those of traffic, and then those of sequences
use Rattle.chi_cover.proofs.Lists.{on_ok}
use Rattle.chi_cover.proofs.Sums.{added_then}
use Rattle.chi_cover.proofs.Traced.{read_at, within_at}
use Rattle.chi_cover.proofs.measured.add_operation.Goals as goal

pub add_own-requires : goal.add_own-requires
add_own-requires c =
    let ops = c.args.ops.now in
    within_at ops c.args.place c.index-ops-place.result c.requires.traced c.requires.place (read_at ops c.args.place c.index-ops-place.result c.requires.place c.index-ops-place.is)

pub returns-clause-added : goal.returns-clause-added
returns-clause-added c =
    let ops = c.args.ops.now in
    let own = rw (read_at ops c.args.place c.index-ops-place.result c.requires.place c.index-ops-place.is) at c.add_own.ensures in
    on_ok c.add_sequences.result c.add_sequences.ensures.added (λ after. added_then own (added_then c.in_ok-add_traffic.ensures after))
