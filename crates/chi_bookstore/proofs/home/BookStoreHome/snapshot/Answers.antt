-- One more word of the memory.
use Rattle.std.proofs.Common.{rules, ◌≡◌, ◌<◌, ◌∙◌, ap, subst, ℕ, List, bit_xor, slice_index}
use Rattle.atomic_table.specs.Table.{Me}
use Rattle.chi_lanes.specs.Memory.{word}
use Rattle.chi_history.specs.declared.opening.Opening.{Opening}
use Rattle.chi_history.specs.History.{end}
use Rattle.chi_rule.specs.declared.view.View.{View}
use Rattle.chi_rule.specs.declared.purpose.Purpose.{Purpose}
use Rattle.chi_rule.specs.StepFacts.{ReadsAt}
use Rattle.chi_rule.proofs.SeatLemmas.{one_more, seat_reads}
use Rattle.chi_bookstore.proofs.home.BookStoreHome.snapshot.Goals as goal

pub loop-granule-preserved : goal.loop-granule-preserved
loop-granule-preserved g c =
    let o : Opening = c.args.self.now.values in
    let own = c.requires.own in
    let v : View = c.args.seat.now.table_seat.me.0 in
    let w : View = c.read_one-found.new.seat.me.0 in
    let at : ℕ = c.loop-granule.granule in
    let found : ℕ = c.read_one-found.result in
    let same = c.loop-granule.invariant.same in
    let told = c.read_one-found.ensures in
    let reads : ReadsAt v at found w = subst (λ (z : View). ReadsAt z at found w) (ap (λ m. m.0) same) told.reads in
    let under : at < o.region.granules = search rules in
    let is : bit_xor found (slice_index o.image at) ≡ word (end o v.seen) o.region at =
    seat_reads o c.args.seat.now.numbers v at found own.opening c.requires.all under (c.args.self.now.opening.words at) reads.1 in
    record {
      table = told.own.0 ∙ c.loop-granule.invariant.table;
      same = ◌∙◌ {A = Me Purpose View} (λ i. (told.reads.0 i, told.own.1 i)) same;
      numbers = c.loop-granule.invariant.numbers;
      shown = one_more c.loop-granule.words at (bit_xor found (slice_index c.image-image.result.now at)) (λ k. word (end o v.seen) o.region k)
          (search rules) c.loop-granule.invariant.shown (ap (λ (xs : List ℕ). bit_xor found (slice_index xs at)) c.image-image.ensures ∙ is);
    }

pub returns-clause-shown : goal.returns-clause-shown
returns-clause-shown g c = search rules steps 1500000
