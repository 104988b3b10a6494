-- one part after the other, where there are some
use Rattle.std.proofs.Common.{◌≡◌, nat_lt, true, length, append_assoc, append-nil, arith, lt-ltb}
use Rattle.chi_excerpt.specs.Excerpts.{order_line}
use Rattle.chi_excerpt.proofs.excerpt.add_order.Goals as goal

pub returns : goal.returns
unfolding order_line
returns c =
    let some : nat_lt 0 (length c.args.ops.now) ≡ true = lt-ltb 0 (length c.args.ops.now) (omega arith) in
    rw some (simp (c.in_ok-add_parts.ensures, c.in_ok-add_numbers.ensures, c.saturating_sub.ensures, append_assoc, append-nil) at c.add_parts-2.ensures)
