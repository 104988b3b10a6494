-- one part after the other
use Rattle.std.proofs.Common.{append_assoc, append-nil}
use Rattle.chi_page.specs.Answers.{before_members}
use Rattle.chi_page.proofs.stopped.add_before.Goals as goal

pub returns : goal.returns
unfolding before_members
returns c =
    simp (c.in_ok-add_parts.ensures, c.in_ok-add_objects.ensures, c.deref.ensures.value, c.in_ok-add_parts-2.ensures, c.in_ok-add_numbers.ensures, c.in_ok-add_parts-3.ensures, c.in_ok-add_replies.ensures, c.deref-2.ensures.value, c.in_ok-add_parts-4.ensures, append_assoc, append-nil) at c.add_to_the_end.ensures
