-- A test of the list is a test of the set.
use Rattle.std.proofs.Common.{◌∙◌, ap}
use Rattle.chi_history.specs.NumberLists.{has}
use Rattle.chi_history.proofs.NumbersLemmas.{list_any-has}
use Rattle.chi_history.proofs.numbers.Numbers.has.Goals as goal

pub returns : goal.returns
returns c = c.contains.ensures.value ∙ (list_any-has c.deref.result.now c.args.n ∙ ap (λ xs. has xs c.args.n) (c.deref.ensures.0 ∙ c.self.view_is))
