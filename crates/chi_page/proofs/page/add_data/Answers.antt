-- one part after the other
use Rattle.std.proofs.Common.{append_assoc, append-nil}
use Rattle.chi_page.specs.Pages.{data_json}
use Rattle.chi_page.proofs.page.add_data.Goals as goal

pub returns : goal.returns
unfolding data_json
returns c =
    simp (c.in_ok-add_parts.ensures, c.in_ok-add_blamed.ensures, c.in_ok-add_parts-2.ensures, c.in_ok-add_granules.ensures, c.in_ok-add_parts-3.ensures, c.in_ok-add_operations.ensures, append_assoc, append-nil) at c.add_parts-4.ensures
