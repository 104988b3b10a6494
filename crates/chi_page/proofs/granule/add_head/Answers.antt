-- one part after the other
use Rattle.std.proofs.Common.{append_assoc, append-nil}
use Rattle.chi_page.specs.Granules.{head_json}
use Rattle.chi_page.proofs.granule.add_head.Goals as goal

pub returns : goal.returns
unfolding head_json
returns c =
    simp (c.in_ok-add_parts.ensures, c.in_ok-add_granule.ensures, c.in_ok-add_parts-2.ensures, c.in_ok-add_finding.ensures, c.in_ok-add_parts-3.ensures, c.in_ok-add_word.ensures, c.in_ok-add_parts-4.ensures, append_assoc, append-nil) at c.add_told.ensures
