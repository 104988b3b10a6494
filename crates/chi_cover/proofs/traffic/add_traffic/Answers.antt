-- one list of bins after the other
use Rattle.std.proofs.Common.{◌≡◌, ◌+◌, ◌<◌, ℕ, List, [], ◌∷◌, All, filter, length, sym, subst, ap, ◌∙◌, arith}
use Rattle.std.proofs.lemmas.List.Elements.{All-filter}
use Rattle.chi_trace.specs.declared.operation.Operation.{Operation}
use Rattle.chi_trace.specs.Explains.{at}
use Rattle.chi_cover.specs.declared.bin.Bin.TheVariants.{Open}
use Rattle.chi_cover.specs.Traffic.{depth_of, have_common_byte, overlap_bins_at, requester_bins_at, traffic_bins}
use Rattle.chi_cover.specs.Added.{AreAdded}
use Rattle.chi_cover.proofs.SameBins.{same_depth, same_overlaps, same_requesters}
use Rattle.chi_cover.proofs.Sums.{added_then}
use Rattle.chi_cover.proofs.Traced.{read_at, within_at}
use Rattle.chi_cover.proofs.traffic.add_traffic.Goals as goal

-- those with a common byte are places of the trace
common_inside : (ops : List Operation) (i : ℕ) (op : Operation) (before places seen : List ℕ) → i < length ops → All (λ j. j < i) before
    → places ≡ filter (λ j. have_common_byte (at ops j).access op.access) before → seen ≡ places → All (λ j. j < length ops) seen
common_inside ops i op before places seen below earlier is looked =
    let inside : ℕ → Type 0 = λ j. j < length ops in
    subst (All inside) (sym (looked ∙ is)) (All-filter _ inside before (λ k d under. let first = earlier k d under in omega (arith, first, below)))

pub with_common_byte-requires-clause-within : goal.with_common_byte-requires-clause-within
with_common_byte-requires-clause-within c =
    let ops = c.args.ops.now in
    within_at ops c.args.place c.index-ops-place.result c.requires.traced c.requires.place (read_at ops c.args.place c.index-ops-place.result c.requires.place c.index-ops-place.is)

pub add_overlaps-requires-clause-places : goal.add_overlaps-requires-clause-places
add_overlaps-requires-clause-places c =
    common_inside c.args.ops.now c.args.place c.index-ops-place.result c.args.before.now.places.items _ _ c.requires.place c.requires.before.places
    (c.in_ok-overlapping.ensures ∙ ap (filter (λ j. have_common_byte (at c.args.ops.now j).access c.index-ops-place.result.access)) c.deref.ensures.value) c.deref-2.ensures.value

pub add_requesters-requires-clause-places : goal.add_requesters-requires-clause-places
add_requesters-requires-clause-places c =
    common_inside c.args.ops.now c.args.place c.index-ops-place.result c.args.before.now.places.items _ _ c.requires.place c.requires.before.places
    (c.in_ok-overlapping.ensures ∙ ap (filter (λ j. have_common_byte (at c.args.ops.now j).access c.index-ops-place.result.access)) c.deref.ensures.value) c.deref-3.ensures.value

pub returns : goal.returns
unfolding traffic_bins
returns c =
    let ops = c.args.ops.now in
    let place = c.args.place in
    let before = c.args.before.now in
    let op = read_at ops place c.index-ops-place.result c.requires.place c.index-ops-place.is in
    let common : Operation → List ℕ → List ℕ = λ o places. filter (λ j. have_common_byte (at ops j).access o.access) places in
    let found : c.in_ok-overlapping.overlapping.items ≡ common (at ops place) before.places.items =
    c.in_ok-overlapping.ensures ∙ (ap (λ o. common o c.deref.result.now) op ∙ ap (common (at ops place)) c.deref.ensures.value) in
    let long : c.len.result ≡ length before.ends.items = omega arith in
    let depth = c.depth_of.ensures ∙ (ap (λ n. depth_of (n + 1)) long ∙ same_depth _ _ c.requires.before.count) in
    let overlaps = ap (overlap_bins_at ops place) (c.deref-2.ensures.value ∙ found) ∙ same_overlaps ops place before.places.items c.requires.before.alike in
    let requesters = ap (requester_bins_at ops place) (c.deref-3.ensures.value ∙ found) ∙ same_requesters ops place before.places.items c.requires.before.alike in
    added_then (subst (λ d. AreAdded (Open d ∷ []) c.args.counts.now c.add_bin.new.counts) depth c.add_bin.ensures)
    (added_then (subst (λ bins. AreAdded bins c.add_bin.new.counts c.add_overlaps.new.counts) overlaps c.add_overlaps.ensures)
    (subst (λ bins. AreAdded bins c.add_overlaps.new.counts c.add_requesters.new.counts) requesters c.add_requesters.ensures))
