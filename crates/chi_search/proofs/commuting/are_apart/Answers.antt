-- operands apart commute
use Rattle.std.proofs.Common.{inl, inr, arith}
use Rattle.chi_search.proofs.Apart.{apart}
use Rattle.chi_search.proofs.commuting.are_apart.Goals as goal

pub returns-then-end-other_start : goal.returns-then-end-other_start
returns-then-end-other_start c _ =
    apart c.args.op.now c.args.other.now c.addr-start.ensures.lawful c.addr-other_start.ensures.lawful (omega arith) (inl (omega arith))

pub returns-else-end-other_start : goal.returns-else-end-other_start
returns-else-end-other_start c is =
    apart c.args.op.now c.args.other.now c.addr-start.ensures.lawful c.addr-other_start.ensures.lawful (omega arith) (inr (grind (arith, is)))
