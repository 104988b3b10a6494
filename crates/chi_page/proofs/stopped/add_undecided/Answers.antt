-- one part after the other
use Rattle.std.proofs.Common.{append_assoc, append-nil}
use Rattle.chi_page.specs.Answers.{undecided_members}
use Rattle.chi_page.proofs.stopped.add_undecided.Goals as goal

pub returns : goal.returns
unfolding undecided_members
returns c = simp (c.in_ok-add_parts.ensures, c.in_ok-add_granule.ensures, c.in_ok-add_parts-2.ensures, append_assoc, append-nil) at c.add_known.ensures
