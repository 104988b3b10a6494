-- one part after the other, where there are some
use Rattle.std.proofs.Common.{◌≡◌, nat_lt, true, length, append_assoc, append-nil, arith, lt-ltb}
use Rattle.chi_excerpt.specs.Writers.{writer_line}
use Rattle.chi_excerpt.proofs.writers.add_writer.Goals as goal

pub returns : goal.returns
unfolding writer_line
returns c =
    let some : nat_lt 0 (length c.args.bytes.now) ≡ true = lt-ltb 0 (length c.args.bytes.now) (omega arith) in
    rw some (simp (c.in_ok-add_parts.ensures, c.in_ok-add_each_written.ensures, append_assoc, append-nil) at c.add_parts-2.ensures)
