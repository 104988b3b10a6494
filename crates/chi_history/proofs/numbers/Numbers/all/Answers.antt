-- The list is that of the set.
use Rattle.std.proofs.Common.{◌<◌, arith}
use Rattle.std.proofs.lemmas.Bool.{ltb-true}
use Rattle.chi_history.specs.NumberSets.{below}
use Rattle.chi_history.proofs.NumbersLemmas.{listed_has, listed_in_order}
use Rattle.chi_history.proofs.numbers.Numbers.all.Goals as goal

pub invariant_of-result : goal.invariant_of-result
invariant_of-result c = listed_in_order (below c.args.n) c.numbers.k _ (omega arith) c.numbers.invariant.listed

pub returns : goal.returns
returns c =
    listed_has (below c.args.n) c.numbers.k _ (omega arith) c.numbers.invariant.listed (λ r h. let low : r < c.args.n = ltb-true r c.args.n h in omega (arith, c.requires))
