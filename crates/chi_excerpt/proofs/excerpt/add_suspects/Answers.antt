-- one part after the other, where there is more than one
use Rattle.std.proofs.Common.{◌≡◌, nat_lt, true, length, append_assoc, append-nil, arith, lt-ltb}
use Rattle.chi_excerpt.specs.Excerpts.{suspects_line}
use Rattle.chi_excerpt.proofs.excerpt.add_suspects.Goals as goal

pub returns : goal.returns
unfolding suspects_line
returns c =
    let many : nat_lt 1 (length c.args.suspects.now) ≡ true = lt-ltb 1 (length c.args.suspects.now) (omega arith) in
    rw many (simp (c.in_ok-add_parts.ensures, c.in_ok-add_numbers.ensures, append_assoc, append-nil) at c.add_parts-2.ensures)
