-- each bin has its own number
use Rattle.std.proofs.Common.{◌≡◌, ℕ, ◌+◌, ◌<◌, Bool, Option, None, length, map, count_by, get_or, refl, sym, subst, ap, ◌∙◌, arith, zero-add}
use Rattle.std.proofs.lemmas.List.{get_or-map}
use Rattle.std.specs.List.{Contains, range_with_len}
use Rattle.std.proofs.lemmas.List.FromFn.{fill_by_all, get_or-range_with_len, length-range_with_len}
use Rattle.chi_search.proofs.Sets.{Contains-map}
use Rattle.chi_cover.specs.declared.bin.Bin.{Bin}
use Rattle.chi_cover.specs.Bins.{all_bins, lanes_of, operation_bins}
use Rattle.chi_cover.specs.Numbers.{AreNumbered, number_of}
use Rattle.chi_cover.specs.Plan.{PlanValue, goal_in}
use Rattle.chi_cover.proofs.Lists.{counted}

pub numbered : AreNumbered
unfolding all_bins operation_bins lanes_of
numbered = refl

below_range : (n k : ℕ) → Contains (range_with_len 0 n) k → k < n
below_range n k there =
    let i = there.0 in
    let below : i < n = subst (λ m. i < m) (length-range_with_len 0 n) there.1 in
    let is : 0 + i ≡ k = sym (get_or-range_with_len 0 n i k below) ∙ there.2 in
    omega arith

pub bin_count : length all_bins ≡ 1410
unfolding all_bins operation_bins lanes_of
bin_count = refl

pub within : (bin : Bin) → Contains all_bins bin → number_of bin < 1410
within bin there = below_range 1410 (number_of bin) (subst (λ ns. Contains ns (number_of bin)) numbered (Contains-map number_of all_bins bin there))

-- as many numbers pass a test as bins whose number does
pub by_numbers : (test : ℕ → Bool) → count_by test (range_with_len 0 1410) ≡ count_by (λ bin. test (number_of bin)) all_bins
by_numbers test = ap (count_by test) (sym numbered) ∙ counted number_of test all_bins

-- as many goals pass a test as bins whose goal does
pub by_goals : (test : Option ℕ → Bool) (plan : PlanValue) → length plan.goals ≡ 1410 → count_by test plan.goals ≡ count_by (λ bin. test (goal_in plan bin)) all_bins
unfolding goal_in
by_goals test plan long =
    let goal : ℕ → Option ℕ = λ n. get_or plan.goals n None in
    let whole : plan.goals ≡ map goal (range_with_len 0 1410) = fill_by_all goal plan.goals 1410 None long (λ k below. refl) in
    ap (count_by test) whole ∙ (counted goal test (range_with_len 0 1410) ∙ by_numbers (λ n. test (goal n)))

-- of a list with an item for each bin, in their order: the item of a bin stands at its number
pub at_number : {X : Type 0} (f : Bin → X) (d : X) (bin : Bin) → Contains all_bins bin → get_or (map f all_bins) (number_of bin) d ≡ f bin
at_number f d bin there =
    let i = there.0 in
    let below : i < length all_bins = there.1 in
    let is : get_or all_bins i bin ≡ bin = there.2 in
    let inside : i < 1410 = subst (λ n. i < n) bin_count below in
    let place : number_of bin ≡ i =
    ap number_of (sym is) ∙ (sym (get_or-map number_of all_bins i bin 0 below) ∙ (ap (λ ns. get_or ns i 0) numbered ∙ (get_or-range_with_len 0 1410 i 0 inside ∙ zero-add i))) in
    ap (λ n. get_or (map f all_bins) n d) place ∙ (get_or-map f all_bins i bin d below ∙ ap f is)
