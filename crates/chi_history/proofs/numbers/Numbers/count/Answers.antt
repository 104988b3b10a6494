-- The list has each number of the set once.
use Rattle.std.proofs.Common.{◌∙◌, ap, length}
use Rattle.chi_history.specs.NumberLists.{has, size_of}
use Rattle.chi_history.proofs.NumbersLemmas.{length-numbers_in}
use Rattle.chi_history.proofs.numbers.Numbers.count.Goals as goal

pub returns : goal.returns
returns c = c.len.ensures.value ∙ (ap length c.self.invariant ∙ (length-numbers_in (has c.self.inside.items.items) 8 ∙ ap (λ xs. size_of (has xs)) c.self.view_is))
