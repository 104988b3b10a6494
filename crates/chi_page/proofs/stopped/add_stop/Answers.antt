-- one part after the other
use Rattle.std.proofs.Common.{append_assoc, append-nil}
use Rattle.chi_page.specs.Answers.{stop_members}
use Rattle.chi_page.proofs.stopped.add_stop.Goals as goal

pub returns : goal.returns
unfolding stop_members
returns c =
    simp (c.in_ok-add_parts.ensures, c.in_ok-add_object.ensures, c.in_ok-add_parts-2.ensures, c.in_ok-add_numbers.ensures, c.deref.ensures.value, c.in_ok-add_parts-3.ensures, c.in_ok-add_objects.ensures, c.deref-2.ensures.value, c.in_ok-add_parts-4.ensures, append_assoc, append-nil) at c.add_words.ensures
