-- the operations of one granule among those of all, and by themselves
use Rattle.std.proofs.Common.{◌≡◌, ℕ, ◌+◌, ◌<◌, ◌≤◌, ltb, leb, true, false, List, ◌++◌, All, None, drop, filter, get_or, length, take, sym, ap, subst, ◌∙◌, arith}
use Rattle.std.specs.Prelude.{IsPermutation}
use Rattle.std.specs.List.Sorted.{IsPartitionPoint}
use Rattle.std.proofs.lemmas.Bool.Decides.{nat_tests}
use Rattle.std.proofs.lemmas.List.{append-nil, get_or-drop, get_or-take, length-drop, length-take, take-append-drop}
use Rattle.std.proofs.lemmas.List.Elements.{filter-append, filter_passes}
use Rattle.std.proofs.lemmas.List.Sorted.{All-permutation, IsPermutation-refl}
use Rattle.chi_trace.specs.declared.operation.Operation.{Operation}
use Rattle.chi_trace.specs.AtPlaces.{GranulesStandAlone, is_in}
use Rattle.chi_trace.specs.Cuts.{cut}
use Rattle.chi_trace.specs.Granules.{granule_of}
use Rattle.chi_judge.specs.Reaches.{IsExplained}
use Rattle.chi_judge.proofs.Leading.{cut_filter, moved_cut}
use Rattle.chi_judge.proofs.Lists.{filter_each, filter_none}

-- of operations that are sorted by their granules those of one stand between those of lower and those of higher ones
pub between : (g : ℕ) (ops : List Operation) (from count : ℕ)
    → IsPartitionPoint (λ (op : Operation). ltb (granule_of op) g ≡ true) (λ (op : Operation). ltb (granule_of op) g ≡ false) ops from
    → IsPartitionPoint (λ (op : Operation). leb (granule_of op) g ≡ true) (λ (op : Operation). leb (granule_of op) g ≡ false) (drop from ops) count
    → from ≤ length ops → count ≤ length (drop from ops) → filter (is_in g) ops ≡ take count (drop from ops)
between g ops from count lower upper within inside =
    ap (filter (is_in g)) (sym parts) ∙ filter-append (is_in g) (take from ops) (take count rest ++ drop count rest)
    ∙ ap (λ l. l ++ filter (is_in g) (take count rest ++ drop count rest)) (filter_none (is_in g) (take from ops) below)
    ∙ filter-append (is_in g) (take count rest) (drop count rest)
    ∙ ap (λ l. filter (is_in g) (take count rest) ++ l) (filter_none (is_in g) (drop count rest) above)
    ∙ append-nil (filter (is_in g) (take count rest)) ∙ filter_each (is_in g) (take count rest) own
  where
    rest : List Operation
    rest = drop from ops

    parts : take from ops ++ (take count rest ++ drop count rest) ≡ ops
    parts = ap (λ l. take from ops ++ l) (take-append-drop count rest) ∙ take-append-drop from ops

    below : All (λ op. is_in g op ≡ false) (take from ops)
    below k d under =
        let place : k < from = omega (arith, length-take from ops, under) in
        let is = lower.0 k d (omega arith) place in
        subst (λ (op : Operation). is_in g op ≡ false) (sym (get_or-take from ops k d place)) (grind (arith, nat_tests, is))

    own : All (λ op. is_in g op ≡ true) (take count rest)
    own k d under =
        let place : k < count = omega (arith, length-take count rest, under) in
        let later = lower.1 (from + k) d (omega arith) (omega (arith, length-drop from ops)) in
        let by = upper.0 k d (omega arith) place in
        let is : ltb (granule_of (get_or rest k d)) g ≡ false = ap (λ (op : Operation). ltb (granule_of op) g) (get_or-drop from ops k d) ∙ later in
        subst (λ (op : Operation). is_in g op ≡ true) (sym (get_or-take count rest k d place)) (grind (arith, nat_tests, is, by))

    above : All (λ op. is_in g op ≡ false) (drop count rest)
    above k d under =
        let is = upper.1 (count + k) d (omega arith) (omega (arith, length-drop count rest, under)) in
        subst (λ (op : Operation). is_in g op ≡ false) (sym (get_or-drop count rest k d)) (grind (arith, nat_tests, is))

-- the operations of a granule are explained up to a time where they are among others, in another order
pub alike : GranulesStandAlone → (time : ℕ) (a b : List Operation) (g w : ℕ) → IsPermutation (filter (is_in g) a) (filter (is_in g) b)
    → IsExplained time a g w → IsExplained time b g w
alike law time a b g w moved explained =
    let known : List Operation = cut time (filter (is_in g) b) in
    let here = moved_cut time g a (filter (is_in g) b) moved in
    let there = subst (λ (l : List Operation). IsPermutation l known) (sym (cut_filter time g b)) (IsPermutation-refl known) in
    (law (cut time b) known g w None there).1 ((law (cut time a) known g w None here).0 explained)

-- where they stand by themselves none is of another
pub own_alike : (ops own : List Operation) (g : ℕ) → IsPermutation (filter (is_in g) ops) own → IsPermutation (filter (is_in g) ops) (filter (is_in g) own)
own_alike ops own g moved =
    subst (IsPermutation (filter (is_in g) ops))
    (sym (filter_each (is_in g) own (All-permutation (λ op. is_in g op ≡ true) (filter (is_in g) ops) own moved (filter_passes (is_in g) ops)))) moved
