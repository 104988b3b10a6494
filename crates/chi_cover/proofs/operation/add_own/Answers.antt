-- one list of bins after the other
use Rattle.std.proofs.Common.{IfSome, Option, subst}
use Rattle.chi_fields.specs.Access.{IsLen}
use Rattle.chi_cover.specs.declared.operand.Values.{Values}
use Rattle.chi_cover.specs.Operations.{own_bins}
use Rattle.chi_cover.proofs.Sums.{added_then}
use Rattle.chi_cover.proofs.operation.add_own.Goals as goal

pub add_results-requires : goal.add_results-requires
add_results-requires c values is = subst (λ (found : Option Values). IfSome found (λ v. IsLen v.len)) is c.values_of.ensures.length

pub returns : goal.returns
unfolding own_bins
returns c =
    added_then (rw c.operation_bin.ensures at c.add_bin.ensures)
    (added_then (rw c.comparison_bin.ensures at c.add_some.ensures)
    (added_then (rw c.enables_bin.ensures at c.add_some-2.ensures) (rw c.values_of.ensures.value at c.add_results.ensures)))
