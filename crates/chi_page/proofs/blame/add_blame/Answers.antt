-- one part after the other
use Rattle.std.proofs.Common.{append_assoc, append-nil}
use Rattle.chi_page.specs.Pages.{blame_json}
use Rattle.chi_page.proofs.blame.add_blame.Goals as goal

pub returns : goal.returns
unfolding blame_json
returns c =
    simp (c.in_ok-add_parts.ensures, c.in_ok-add_granule.ensures, c.in_ok-add_stop.ensures, c.in_ok-add_parts-2.ensures, c.in_ok-add_replies.ensures, c.deref.ensures.value, append_assoc, append-nil) at c.add_parts-3.ensures
