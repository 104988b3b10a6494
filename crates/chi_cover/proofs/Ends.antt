-- the latest of some ends
use Rattle.std.proofs.Common.{◌≡◌, ℕ, ◌+◌, ◌<◌, ◌≤◌, Bool, true, false, cond, nat_le, List, [], ◌∷◌, ◌++◌, All, filter, get_or, length, remove, refl, sym, ap, ◌∙◌, arith, zero-add}
use Rattle.std.proofs.lemmas.Bool.{le-leb, leb-true}
use Rattle.std.proofs.lemmas.List.Elements.{All-head, All-tail}
use Rattle.std.proofs.lemmas.List.Sums.{length-filter, sum_by-append, sum_by-cons, sum_by-remove}
use Rattle.chi_cover.specs.Open.{count_from, up_to_eight}
use Rattle.chi_cover.proofs.Lists.{filter_twice}

-- one end more
pub one_end_more : (time : ℕ) (ends : List ℕ) (end : ℕ) → count_from time (ends ++ end ∷ []) ≡ count_from time ends + cond (nat_le time end) 1 0
one_end_more time ends end =
    sum_by-append (λ (e : ℕ). cond (nat_le time e) 1 0) ends (end ∷ []) ∙ ap (λ k. count_from time ends + k) (zero-add (cond (nat_le time end) 1 0))

-- where none is before a time
all_from : (time : ℕ) (ends : List ℕ) → All (λ end. time ≤ end) ends → count_from time ends ≡ length ends
all_from time [] later = refl
all_from time (end ∷ ends) later =
    let here : time ≤ end = All-head (λ end. time ≤ end) end ends later in
    let rest : count_from time ends ≡ length ends = all_from time ends (All-tail (λ end. time ≤ end) end ends later) in
    let count : count_from time (end ∷ ends) ≡ cond (nat_le time end) 1 0 + count_from time ends = sum_by-cons (λ (e : ℕ). cond (nat_le time e) 1 0) end ends in
    let one : ◌≡◌ {A = ℕ} (cond (nat_le time end) 1 0) 1 = ap (λ t. cond t 1 0) (le-leb time end here) in
    omega arith

-- of more than eight ends the least may be left out
pub without_least : (ends : List ℕ) (i : ℕ) (time : ℕ) → i < length ends → 8 < length ends → All (λ end. get_or ends i 0 ≤ end) ends
    → up_to_eight (count_from time (remove ends i)) ≡ up_to_eight (count_from time ends)
without_least ends i time below many least = by_test (nat_le time (get_or ends i 0)) refl
  where
    removed : count_from time (remove ends i) + cond (nat_le time (get_or ends i 0)) 1 0 ≡ count_from time ends
    removed = sum_by-remove (λ (e : ℕ). cond (nat_le time e) 1 0) ends i 0 below

    by_test : (test : Bool) → nat_le time (get_or ends i 0) ≡ test → up_to_eight (count_from time (remove ends i)) ≡ up_to_eight (count_from time ends)
    by_test true after =
        let from : time ≤ get_or ends i 0 = leb-true time (get_or ends i 0) after in
        let whole : count_from time ends ≡ length ends = all_from time ends (λ k d under. let above = least k d under in omega (arith, above, from)) in
        let left : count_from time (remove ends i) + 1 ≡ count_from time ends = ap (λ t. count_from time (remove ends i) + cond t 1 0) (sym after) ∙ removed in
        omega arith
    by_test false ended =
        let same : count_from time (remove ends i) + 0 ≡ count_from time ends = ap (λ t. count_from time (remove ends i) + cond t 1 0) (sym ended) ∙ removed in
        omega arith

-- those that are left at a time are as many at each later one
pub count_left : (from time : ℕ) (ends : List ℕ) → from ≤ time → count_from time (filter (nat_le from) ends) ≡ count_from time ends
count_left from time ends later =
    sym (length-filter (nat_le time) (filter (nat_le from) ends))
    ∙ (ap length (filter_twice (nat_le from) (nat_le time) (λ end after. let above : time ≤ end = leb-true time end after in le-leb from end (omega arith)) ends)
    ∙ length-filter (nat_le time) ends)

-- numbers that are the same up to eight still are with the same more
pub still_same : (a b more : ℕ) → up_to_eight a ≡ up_to_eight b → up_to_eight (a + more) ≡ up_to_eight (b + more)
still_same a b more same = omega arith
