-- the lanes of the granule are copied, and read as one number
use Rattle.std.proofs.Common.{◌≡◌, ℕ, ◌+◌, ◌/◌, ◌%◌, ◌<◌, ◌≤◌, List, length, slice_index, slice_range, arith, ap, ◌∙◌, w64}
use Rattle.std.specs.Int.{bit_at, from_le_bytes}
use Rattle.chi_fields.specs.Access.{lane_of}
use Rattle.chi_lanes.specs.Bytes.{AreBytes}
use Rattle.chi_lanes.specs.Memory.{granule_start}
use Rattle.chi_lanes.proofs.StdBytes.{lanes_read}
use Rattle.chi_search.proofs.WordBits.{bit_of_lanes}
use Rattle.chi_search.proofs.effect.word_in.Goals as goal
use Rattle.chi_search.proofs.effect.word_in.Goals.{then-lane-ge8, else-lane-ge8}

-- a bit of the number of eight lanes is one of the lane of its address
read : (addr first n k : ℕ) (lanes bs : List ℕ) → first + 8 ≤ length lanes → AreBytes lanes → first ≡ lane_of (granule_start addr)
    → bs ≡ slice_range lanes first (first + 8) → n ≡ from_le_bytes w64 bs → k < 64
    → bit_at n k ≡ bit_at (slice_index lanes (lane_of (granule_start addr + k / 8))) (k % 8)
read addr first n k lanes bs within are half copied number below =
    let lane : first + k / 8 ≡ lane_of (granule_start addr + k / 8) = omega arith in
    bit_of_lanes lanes first n k (lanes_read lanes bs first n within are copied number) below ∙ ap (λ l. bit_at (slice_index lanes l) (k % 8)) lane

pub returns : goal.returns
returns c k below =
    elim c.if-lane-ge8.branch [
      | then-lane-ge8 w ↦
          let upper : 8 ≡ lane_of (granule_start c.args.op.now.access.addr) = omega (arith, c.lane.ensures, w.if-lane-ge8.true) in
          read c.args.op.now.access.addr 8 c.from_le_bytes.result k c.args.lanes.now c.if-lane-ge8.bytes (omega arith) c.fits-lanes upper
          (w.bytes-is ∙ w.copy_from_slice.ensures.after) c.from_le_bytes.ensures below
      | else-lane-ge8 w ↦
          let lower : 0 ≡ lane_of (granule_start c.args.op.now.access.addr) = omega (arith, c.lane.ensures, w.if-lane-ge8.false) in
          read c.args.op.now.access.addr 0 c.from_le_bytes.result k c.args.lanes.now c.if-lane-ge8.bytes (omega arith) c.fits-lanes lower
          (w.bytes-is ∙ w.copy_from_slice-else-lane-ge8.ensures.after) c.from_le_bytes.ensures below
    ]
