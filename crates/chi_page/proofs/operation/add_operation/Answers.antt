-- one part after the other
use Rattle.std.proofs.Common.{append_assoc, append-nil}
use Rattle.chi_page.specs.Operations.{operation_json}
use Rattle.chi_page.proofs.operation.add_operation.Goals as goal

pub returns : goal.returns
unfolding operation_json
returns c = simp (c.in_ok-add_parts.ensures, c.in_ok-add_request.ensures, c.in_ok-add_observed.ensures, append_assoc, append-nil) at c.add_parts-2.ensures
