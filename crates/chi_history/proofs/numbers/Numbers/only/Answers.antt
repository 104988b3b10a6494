-- The list is that of the set.
use Rattle.std.proofs.Common.{◌≡◌, arith, eqb-true}
use Rattle.chi_history.specs.NumberSets.{only}
use Rattle.chi_history.proofs.NumbersLemmas.{listed_has, listed_in_order}
use Rattle.chi_history.proofs.numbers.Numbers.only.Goals as goal

pub invariant_of-result : goal.invariant_of-result
invariant_of-result c = listed_in_order (only c.args.n) c.numbers.k _ (omega arith) c.numbers.invariant.listed

pub returns : goal.returns
returns c =
    listed_has (only c.args.n) c.numbers.k _ (omega arith) c.numbers.invariant.listed (λ r h. let same : r ≡ c.args.n = eqb-true r c.args.n h in omega (arith, c.requires))
