-- The list is that of the set.
use Rattle.std.proofs.Common.{subst, arith, inl, inr}
use Rattle.std.proofs.lemmas.Bool.{or_cases}
use Rattle.chi_history.specs.NumberSets.{union}
use Rattle.chi_history.specs.NumberLists.{IsInOrder, has}
use Rattle.chi_history.proofs.NumbersLemmas.{IsInOrder-below, listed_has, listed_in_order}
use Rattle.chi_history.proofs.numbers.Numbers.merge.Goals as goal

pub invariant_of-self : goal.invariant_of-self
invariant_of-self c = listed_in_order (union (has c.args.self.now) (has c.args.other)) c.numbers.k _ (omega arith) c.numbers.invariant.listed

pub returns : goal.returns
returns c =
    let order : IsInOrder c.args.self.now = subst IsInOrder c.self-2.view_is c.self-2.invariant in
    let other_order : IsInOrder c.args.other = subst IsInOrder c.other.view_is c.other.invariant in
    listed_has (union (has c.args.self.now) (has c.args.other)) c.numbers.k _ (omega arith) c.numbers.invariant.listed (λ r h. elim (or_cases (has c.args.self.now r) (has c.args.other r) h) [
      | inl here ↦ IsInOrder-below c.args.self.now order r here
      | inr there ↦ IsInOrder-below c.args.other other_order r there
    ])
