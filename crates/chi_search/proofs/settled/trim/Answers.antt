-- why a word 0 that is taken off the end changes none
use Rattle.std.proofs.Common.{◌≡◌, ◌-◌, [], ◌∷◌, ◌++◌, Some, ap, length, sym, ◌∙◌, rules, slice_index}
use Rattle.std.specs.List.{slice_get}
use Rattle.std.specs.Option.{option_to_list}
use Rattle.chi_search.proofs.Bits.{last_zero, with_zero}
use Rattle.chi_search.proofs.settled.trim.Goals as goal

pub loop-settled-preserved : goal.loop-settled-preserved
loop-settled-preserved c =
    let old = c.loop-settled.settled.beyond.items in
    let new = c.pop.new.self.items in
    let some : Some 0 ≡ slice_get old (length old - 1) = search rules in
    let zero = last_zero old some in
    let count : c.loop-settled.settled.beyond.len ≡ length old = search rules in
    let popped : c.pop.result ≡ Some 0 = c.pop.ensures.value 0 (search rules) ∙ ap (λ n. Some (slice_index old (n - 1))) count ∙ ap (λ w. Some w) zero.1 in
    let longer : old ≡ new ++ 0 ∷ [] = c.pop.ensures.items ∙ ap (λ r. new ++ option_to_list r) popped in
    let near = c.loop-settled.settled.near in
    λ i. sym (with_zero (near ∷ new) i) ∙ ap (λ xs. slice_index (near ∷ xs) i) (sym longer) ∙ c.loop-settled.invariant i
