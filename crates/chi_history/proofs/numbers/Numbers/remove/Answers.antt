-- The list is that of the set.
use Rattle.std.proofs.Common.{subst, arith}
use Rattle.chi_history.specs.NumberSets.{without}
use Rattle.chi_history.specs.NumberLists.{IsInOrder, has}
use Rattle.chi_history.proofs.HeldLemmas.{without-held}
use Rattle.chi_history.proofs.NumbersLemmas.{IsInOrder-below, listed_has, listed_in_order}
use Rattle.chi_history.proofs.numbers.Numbers.remove.Goals as goal

pub invariant_of-self : goal.invariant_of-self
invariant_of-self c = listed_in_order (without c.args.n (has c.args.self.now)) c.numbers.k _ (omega arith) c.numbers.invariant.listed

pub returns : goal.returns
returns c =
    let order : IsInOrder c.args.self.now = subst IsInOrder c.self-2.view_is c.self-2.invariant in
    listed_has (without c.args.n (has c.args.self.now)) c.numbers.k _ (omega arith) c.numbers.invariant.listed
    (λ r h. IsInOrder-below c.args.self.now order r (without-held c.args.n (has c.args.self.now) r h))
