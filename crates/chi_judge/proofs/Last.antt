-- the last of a list, and operations in the order of their ends
use Rattle.std.proofs.Common.{◌≡◌, ℕ, zero, suc, ◌+◌, ◌-◌, List, [], ◌∷◌, ◌++◌, All, drop, drop-drop, get_or, get_or-take, length, length-append, length-drop, length-take, take, sym, ap, subst, ◌∙◌, arith}
use Rattle.std.specs.List.{AllPairs}
use Rattle.std.proofs.lemmas.List.{drop-append-le, get_or_default}
use Rattle.std.proofs.lemmas.List.Elements.{All-append, All-head, All-tail}
use Rattle.std.proofs.lemmas.List.Kept.{AllPairs-cons}
use Rattle.chi_search.specs.Searchable.{AreByEnd}
use Rattle.chi_trace.specs.declared.operation.Operation.{Operation}
use Rattle.chi_trace.specs.Explains.{at, nothing}
use Rattle.chi_judge.specs.Shown.{EndsNoLater, last_of}

-- the last of the last of a list and of more are the last of the whole
pub last_more : {X : Type 0} (most : ℕ) (xs ys : List X) → last_of most (last_of most xs ++ ys) ≡ last_of most (xs ++ ys)
last_more {X} most xs ys =
    ap (λ (l : List X). drop (length l - most) l) (sym (drop-append-le (length xs - most) xs ys (omega arith)))
    ∙ (drop-drop (length (drop (length xs - most) (xs ++ ys)) - most) (length xs - most) (xs ++ ys)
    ∙ ap (λ (n : ℕ). drop n (xs ++ ys)) counted)
  where
    counted : (length xs - most) + (length (drop (length xs - most) (xs ++ ys)) - most) ≡ length (xs ++ ys) - most
    counted = omega (arith, length-drop (length xs - most) (xs ++ ys), length-append xs ys)

-- one list after the other
pub pairs_append : (xs ys : List Operation) → AllPairs EndsNoLater xs → AllPairs EndsNoLater ys → All (λ op. All (EndsNoLater op) ys) xs → AllPairs EndsNoLater (xs ++ ys)
pairs_append [] ys first then both = then
pairs_append (x ∷ xs) ys first then both =
    AllPairs-cons EndsNoLater x (xs ++ ys)
    (All-append (EndsNoLater x) xs ys (λ k d below. first zero (suc k) d (omega arith) (omega arith)) (All-head (λ (op : Operation). All (EndsNoLater op) ys) x xs both))
    (pairs_append xs ys (λ i j d from below. first (suc i) (suc j) d (omega arith) (omega arith)) then (All-tail (λ (op : Operation). All (EndsNoLater op) ys) x xs both))

-- operations in the order of their ends
pub pairs_by_end : (ops : List Operation) → AreByEnd ops → AllPairs EndsNoLater ops
pairs_by_end ops sorted i j d from below =
    let one : (at ops i).end ≡ (get_or ops i d).end = ap (λ (o : Operation). o.end) (sym (get_or_default ops i d nothing (omega (arith, from, below)))) in
    let other : (at ops j).end ≡ (get_or ops j d).end = ap (λ (o : Operation). o.end) (sym (get_or_default ops j d nothing below)) in
    omega (arith, one, other, sorted i j (omega (arith, from)) below)

pub pairs_take : (count : ℕ) (ops : List Operation) → AllPairs EndsNoLater ops → AllPairs EndsNoLater (take count ops)
pairs_take zero ops pairs = λ i j d from below. absurd (omega (arith, below))
pairs_take (suc count) [] pairs = pairs
pairs_take (suc count) (op ∷ ops) pairs =
    AllPairs-cons EndsNoLater op (take count ops)
    (λ k d below. subst (EndsNoLater op) (sym (get_or-take count ops k d (omega (arith, below, length-take count ops)))) (pairs zero (suc k) d (omega arith) (omega (arith, below, length-take count ops))))
    (pairs_take count ops (λ i j d from below. pairs (suc i) (suc j) d (omega arith) (omega arith)))
