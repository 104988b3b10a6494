-- The masked write of the packet's half is the write of its enabled lanes.
use Rattle.std.proofs.Common.{rules, ap, ◌∙◌, ◌≤◌, ◌<◌, ◌^◌, ◌≡◌, ◌/◌, ◌*◌, arith, ℕ, nat_le, if◌then◌else◌, refl, slice_range, ◌+◌, slice_index, ◌%◌}
use Rattle.std.specs.Int.{bit_at}
use Rattle.std.proofs.lemmas.Bool.Decides.{nat_tests}
use Rattle.chi_fields.specs.Access.{lane_of}
use Rattle.chi_fields.proofs.EnableBits.{enabled_lane}
use Rattle.chi_lanes.specs.Bytes.{little_bytes}
use Rattle.chi_lanes.proofs.EnabledWrites.{EnablesWithin, word_at-with_enabled}
use Rattle.chi_lanes.proofs.Enables.{bit_at-half}
use Rattle.chi_lanes.proofs.operand.written.Goals as goal
use Rattle.chi_lanes.proofs.operand.written.Goals.{then-upper, else-upper}

pub returns : goal.returns
returns c m is at_start =
    let o = c.args.access.now in
    let lawful = c.enables.ensures.lawful in
    let within : EnablesWithin o.enables o.addr o.len = enabled_lane (lane_of o.addr) o.len o.enables (rw c.requires at lawful.enabled) in
    let below : c.masked.result < 2 ^ 64 = search rules in
    let first : ℕ = if nat_le 8 (lane_of o.addr) then 8 else 0 in
    let lane : first ≡ lane_of (o.addr / 8 * 8) = grind (arith, nat_tests) in
    let chosen : c.if-upper.first ≡ first = elim c.if-upper.branch [
      | then-upper w ↦ let test : 8 ≤ o.addr % 16 = omega arith in w.first-is ∙ grind (arith, nat_tests)
      | else-upper w ↦ let test : o.addr % 16 < 8 = omega arith in w.first-is ∙ grind (arith, nat_tests)
    ] in
    let half : little_bytes 8 c.packet_half.result ≡ slice_range o.lanes first (first + 8) = rw (c.lanes.ensures, c.lane-upper.ensures) at c.packet_half.ensures in
    let mask : (k : ℕ) → k < 8 → slice_index (little_bytes 8 c.enabled_mask.result) k ≡ 255 * bit_at o.enables (first + k) =
    λ k inside. rw (c.enables.ensures.value, chosen) at (c.enabled_mask.ensures k inside) ∙ ap (λ b. 255 * b) (bit_at-half o.enables first k inside) in
    word_at-with_enabled m is o.lanes lawful.bytes o.enables o.addr o.len (o.addr / 8 * 8) first c.packet_half.result c.enabled_mask.result
    c.args.before c.masked.result refl lane within at_start
    (record {
      half_is = half;
      mask_is = mask;
      kept = c.masked.ensures.kept;
      written = c.masked.ensures.written;
    }) below
