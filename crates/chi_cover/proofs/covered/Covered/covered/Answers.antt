-- one number more, and the numbers are those of all bins
use Rattle.std.proofs.Common.{◌≡◌, ◌+◌, ◌<◌, ◌≤◌, ℕ, Bool, List, None, Option, true, false, ap, arith, count_by, get_or, length, slice_index, subst, sym, ◌∙◌, zero-add}
use Rattle.std.proofs.lemmas.Grind.{get_or_default_zero}
use Rattle.std.proofs.lemmas.List.FromFn.{length-range_with_len}
use Rattle.std.proofs.lemmas.List.Sums.{count_by-le-length}
use Rattle.std.specs.List.{range_with_len}
use Rattle.chi_cover.specs.Bins.{all_bins}
use Rattle.chi_cover.specs.Counts.{count_in, is_covered}
use Rattle.chi_cover.specs.Numbers.{number_of}
use Rattle.chi_cover.specs.Plan.{goal_in}
use Rattle.chi_cover.proofs.Lists.{count_more}
use Rattle.chi_cover.proofs.Numbered.{by_numbers}
use Rattle.chi_cover.proofs.covered.Covered.covered.Goals.{then-is_covered, else-is_covered}
use Rattle.chi_cover.proofs.covered.Covered.covered.Goals as goal

-- a number passes if the bin that has it is covered
abbrev passes : List (Option ℕ) → List ℕ → ℕ → Bool
passes goals counts n = is_covered (get_or goals n None) (slice_index counts n)

no_more : (goals : List (Option ℕ)) (counts : List ℕ) (covered number : ℕ) → covered ≡ count_by (passes goals counts) (range_with_len 0 number) → covered ≤ number
no_more goals counts covered number so_far =
    let most = count_by-le-length (passes goals counts) (range_with_len 0 number) in
    let long = length-range_with_len 0 number in
    omega (arith, so_far, most, long)

pub overflow_add-covered : goal.overflow_add-covered
overflow_add-covered c =
    let bound = no_more c.goals-goals.result.now c.args.self.now c.loop-number.covered c.loop-number.number c.loop-number.invariant in
    omega (arith, bound)

pub loop-number-preserved : goal.loop-number-preserved
loop-number-preserved c =
    let p = passes c.goals-goals.result.now c.args.self.now in
    let number = c.loop-number.number in
    let counts = c.self.inside.counts.items in
    let inside : number < length counts = subst (λ n. number < n) (sym c.self.invariant) c.loop-number-test.true in
    let count : c.index.result.now ≡ slice_index c.args.self.now number =
    c.index.ensures ∙ (get_or_default_zero counts number c.index.result.now inside ∙ ap (λ (all : List ℕ). slice_index all number) c.self.view_is) in
    let here : c.is_covered.result ≡ p number = c.is_covered.ensures ∙ ap (is_covered (get_or c.goals-goals.result.now number None)) count in
    let tested : c.is_covered.result ≡ p (0 + number) = subst (λ n. c.is_covered.result ≡ p n) (sym (zero-add number)) here in
    elim c.if-is_covered.branch [
      | then-is_covered w ↦
          count_more p 0 number c.loop-number.covered c.if-is_covered.covered true (sym w.if-is_covered.true ∙ tested) c.loop-number.invariant w.covered-is
      | else-is_covered w ↦
          count_more p 0 number c.loop-number.covered c.if-is_covered.covered false (sym w.if-is_covered.false ∙ tested) c.loop-number.invariant (omega (arith, w.covered-is))
    ]

pub returns-clause-value : goal.returns-clause-value
unfolding goal_in count_in
returns-clause-value c =
    let whole : c.loop-number.number ≡ 1410 = omega arith in
    let goals = c.goals-goals.result.now in
    let counts = c.args.self.now in
    subst (λ n. c.loop-number.covered ≡ count_by (passes goals counts) (range_with_len 0 n)) whole c.loop-number.invariant
    ∙ (by_numbers (passes goals counts)
    ∙ ap (λ (all : List (Option ℕ)). count_by (λ bin. passes all counts (number_of bin)) all_bins) c.goals-goals.ensures.goals)

pub returns-clause-most : goal.returns-clause-most
returns-clause-most c =
    let bound = no_more c.goals-goals.result.now c.args.self.now c.loop-number.covered c.loop-number.number c.loop-number.invariant in
    omega (arith, bound)
