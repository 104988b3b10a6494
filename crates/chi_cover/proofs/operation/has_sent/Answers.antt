-- equal numbers are equal bytes, and the other way round
use Rattle.std.proofs.Common.{ℕ, List}
use Rattle.chi_cover.specs.Operations.{operand_in}
use Rattle.chi_cover.proofs.Left.{same_numbers}
use Rattle.chi_cover.proofs.operation.has_sent.Goals as goal

pub returns : goal.returns
returns c =
    let o = c.args.access.now in
    let found : List ℕ = operand_in o c.args.returned.now in
    let sent : List ℕ = operand_in o o.lanes in
    let spelled = rw c.lanes.ensures at c.operand_in-sent.ensures.bytes in
    same_numbers o.len c.operand_in-found.result c.operand_in-sent.result found sent c.operand_in-found.ensures.below c.operand_in-sent.ensures.below
    c.operand_in-found.ensures.bytes spelled
