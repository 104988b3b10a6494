-- The lanes of the operand lie in the half that is read.
use Rattle.std.proofs.Common.{◌∙◌, ap, arith, ℕ, ◌≡◌, ◌+◌, ◌%◌, ◌≤◌, nat_le, if◌then◌else◌, rules}
use Rattle.std.proofs.lemmas.Bool.Decides.{nat_tests}
use Rattle.chi_lanes.specs.Bytes.{little}
use Rattle.chi_lanes.proofs.Runs.{range_in_half}
use Rattle.chi_lanes.proofs.packet.lanes_value.Goals as goal

pub returns-clause-value : goal.returns-clause-value
returns-clause-value c =
    let first : ℕ = if nat_le 8 c.args.lane then 8 else 0 in
    let place : first + c.args.lane % 8 ≡ c.args.lane = grind (arith, nat_tests) in
    let within : c.args.lane % 8 + c.args.len ≤ 8 = search rules in
    c.extract.ensures.value
    ∙ ap little (rw c.packet_half.ensures (range_in_half c.args.lanes.now first c.args.lane c.args.len place within))
