-- one part after the other
use Rattle.std.proofs.Common.{append_assoc, append-nil}
use Rattle.chi_page.specs.Answers.{undecided_json}
use Rattle.chi_page.proofs.answer.add_doubt.Goals as goal

pub returns : goal.returns
unfolding undecided_json
returns c =
    simp (c.in_ok-add_undecided.ensures, c.in_ok-add_parts.ensures, append_assoc, append-nil) at c.add_cut_short.ensures
