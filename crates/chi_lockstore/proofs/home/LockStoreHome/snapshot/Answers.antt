-- One more word of the memory.
use Rattle.std.proofs.Common.{rules, ◌≡◌, ◌<◌, ◌∙◌, ap, subst, sym, ℕ, List, bit_xor, slice_index}
use Rattle.crossbeam_utils.specs.Seq.{cell_view}
use Rattle.chi_lanes.specs.Memory.{word}
use Rattle.chi_history.specs.declared.opening.Opening.{Opening}
use Rattle.chi_history.specs.History.{end}
use Rattle.chi_rule.specs.declared.view.View.{View}
use Rattle.chi_rule.proofs.SeatLemmas.{known_opening, one_more, seat_reads}
use Rattle.chi_lockstore.proofs.home.LockStoreHome.snapshot.Goals as goal

pub loop-granule-preserved : goal.loop-granule-preserved
loop-granule-preserved g c =
    let o : Opening = c.args.self.now.values in
    let v : View = cell_view c.args.seat.now.pass in
    let at : ℕ = c.loop-granule.granule in
    let found : ℕ = slice_index c.look-line.result at in
    let reads = c.look-line.ensures.read in
    let under : at < o.region.granules = search rules in
    let inside : at < v.opening.region.granules = subst (λ (z : Opening). at < z.region.granules) (sym (known_opening o v c.requires.own.1.known)) under in
    let is : bit_xor found (slice_index o.image at) ≡ word (end o v.seen) o.region at =
    seat_reads o c.args.seat.now.numbers v at found c.requires.own.1 c.requires.all under (c.args.self.now.opening.words at) (λ holds. reads.1 holds at inside) in
    one_more c.loop-granule.words at (bit_xor found (slice_index c.image-image.result.now at)) (λ k. word (end o (cell_view c.look-line.new.pass).seen) o.region k) (search rules)
    c.loop-granule.invariant
    (ap (λ (xs : List ℕ). bit_xor found (slice_index xs at)) c.image-image.ensures
    ∙ (is ∙ ap (λ (z : View). word (end o z.seen) o.region at) (sym reads.0)))
