-- a position told without the first operations, once all of those are settled
use Rattle.std.proofs.Common.{◌≡◌, ◌↔◌, ℕ, zero, suc, ◌+◌, ◌-◌, ◌≤◌, nat_le, nat_lt, ◌&&◌, not, Bool, true, false, List, [], ◌∷◌, ◌++◌, All, drop, get_or, length, map, Option, Some, refl, sym, ap, subst, ◌∙◌, arith, get_or-drop, length-append, length-drop, true≢false}
use Rattle.std.proofs.lemmas.Bool.Decides.{nat_tests}
use Rattle.std.proofs.lemmas.List.{drop-append-le}
use Rattle.std.proofs.lemmas.List.Elements.{All-map}
use Rattle.std.proofs.lemmas.Option.{IfSome_then}
use Rattle.chi_history.specs.History.{one_if}
use Rattle.chi_trace.specs.declared.operation.Operation.{Operation}
use Rattle.chi_trace.specs.Explains.{at, is_answered, nothing, times_in}
use Rattle.chi_trace.specs.Granules.{Finishes}
use Rattle.chi_trace.proofs.Moved.{Moves, in_time_moved, last_moved, play_moved, times_moved}
use Rattle.chi_trace.proofs.Places.{of_member, passes}
use Rattle.chi_search.specs.Moves.{Ends}
use Rattle.chi_search.specs.Positions.{Position, back_by, has_bit, is_left, is_unsettled}
use Rattle.chi_search.proofs.Settling.{left_is}

-- `f` moves each operation of a trace that is left to where it stands in another, and `g` moves each that is left there back
record IsMove (ts us : List Operation) (s t : ℕ → Bool) (f g : ℕ → ℕ) : Type 0 where
  same : (i : ℕ) → s i ≡ true → at us (f i) ≡ at ts i
  left : (i : ℕ) → s i ≡ true → t (f i) ≡ true
  home : (i : ℕ) → s i ≡ true → g (f i) ≡ i
  back : (j : ℕ) → t j ≡ true → s (g j) ≡ true
  there : (j : ℕ) → t j ≡ true → f (g j) ≡ j

-- what finishes those of the one finishes those of the other
finishes_moved : (ts us : List Operation) (s t : ℕ → Bool) (f g : ℕ → ℕ) (w : ℕ) (final_word : Option ℕ) (x : List ℕ) → IsMove ts us s t f g
    → Finishes ts s w final_word x → Finishes us t w final_word (map f x)
finishes_moved ts us s t f g w final_word x m h = record {
  done = λ j. done j (t j) refl;
  once = λ j. once j (t j) refl;
  times = in_time_moved ts us f x moves h.times;
  plays = play_moved ts us f w x moves h.plays;
  ending = IfSome_then final_word h.ending (λ v is. last_moved ts us f w x moves ∙ is);
}
  where
    left : All (λ i. s i ≡ true) x
    left = passes s x h.once

    moves : Moves ts us f x
    moves n d under = m.same (get_or x n d) (left n d under)

    moved : (j : ℕ) → t j ≡ true → times_in (map f x) j ≡ times_in x (g j)
    moved j is = times_moved f (g j) j x (m.there j is) (λ n d under to. sym (m.home (get_or x n d) (left n d under)) ∙ ap g to)

    all_left : All (λ j. t j ≡ true) (map f x)
    all_left = All-map (λ j. t j ≡ true) f x (λ n d under. m.left (get_or x n d) (left n d under))

    nowhere : (j n : ℕ) → t j ≡ false → times_in (map f x) j ≡ n → n ≡ 0
    nowhere j zero out is = refl
    nowhere j (suc n) out is = absurd (true≢false (sym (of_member (λ j. t j ≡ true) (map f x) j all_left (omega (arith, is))) ∙ out))

    done : (j : ℕ) (b : Bool) → t j ≡ b → one_if (b && is_answered (at us j)) ≤ times_in (map f x) j
    done j false is = omega arith
    done j true is =
        let i : ℕ = g j in
        let from : at ts i ≡ at us j = sym (m.same i (m.back j is)) ∙ ap (at us) (m.there j is) in
        let due : one_if (s i && is_answered (at us j)) ≤ times_in x i = subst (λ (o : Operation). one_if (s i && is_answered o) ≤ times_in x i) from (h.done i) in
        let all : one_if (is_answered (at us j)) ≤ times_in x i = subst (λ (b : Bool). one_if (b && is_answered (at us j)) ≤ times_in x i) (m.back j is) due in
        omega (arith, all, moved j is)

    once : (j : ℕ) (b : Bool) → t j ≡ b → times_in (map f x) j ≤ one_if b
    once j false is = omega (arith, nowhere j (times_in (map f x) j) is refl)
    once j true is = omega (arith, moved j is, h.once (g j), ap one_if (m.back j is))

-- what is settled there is what was settled so many places on
pub unsettled_there : (k : ℕ) (p : Position) (j : ℕ) → k ≤ p.first → is_unsettled (back_by k p) j ≡ is_unsettled p (k + j)
unsettled_there k p j past =
    ap (λ b. b && not (has_bit p.settled (j - (p.first - k)))) from ∙ ap (λ i. nat_le p.first (k + j) && not (has_bit p.settled i)) bit
  where
    from : nat_le (p.first - k) j ≡ nat_le p.first (k + j)
    from = grind (arith, nat_tests)

    bit : j - (p.first - k) ≡ k + j - p.first
    bit = omega arith

pub left_there : (n m k : ℕ) (p : Position) (j : ℕ) → k ≤ p.first → n ≡ k + m → is_left m (back_by k p) j ≡ is_left n p (k + j)
left_there n m k p j past count = ap (λ b. b && is_unsettled (back_by k p) j) within ∙ ap (λ b. nat_lt (k + j) n && b) (unsettled_there k p j past)
  where
    within : nat_lt j m ≡ nat_lt (k + j) n
    within = grind (arith, nat_tests)

-- what is moved can be moved back
moved_home : {ts us : List Operation} {s t : ℕ → Bool} {f g : ℕ → ℕ} → IsMove ts us s t f g → IsMove us ts t s g f
moved_home {ts} {us} {s} {t} {f} {g} m = record {
  same = λ j is. sym (m.same (g j) (m.back j is)) ∙ ap (at us) (m.there j is);
  left = m.back;
  home = m.there;
  back = m.left;
  there = m.home;
}

at_dropped : (ops more : List Operation) (k j : ℕ) → k ≤ length ops → at (drop k ops ++ more) j ≡ at (ops ++ more) (k + j)
at_dropped ops more k j within = ap (λ (l : List Operation). at l j) (sym (drop-append-le k ops more within)) ∙ get_or-drop k (ops ++ more) j nothing

-- what is left without the first operations is left with them, so many places on
with_first : (ops more : List Operation) (k : ℕ) (p : Position) → k ≤ p.first → k ≤ length ops
    → IsMove (drop k ops ++ more) (ops ++ more) (is_left (length (drop k ops ++ more)) (back_by k p)) (is_left (length (ops ++ more)) p) (λ j. k + j) (λ i. i - k)
with_first ops more k p past within = record {
  same = λ j is. sym (at_dropped ops more k j within);
  left = λ j is. sym (left j) ∙ is;
  home = λ j is. omega arith;
  back = λ i is. left (i - k) ∙ (ap (is_left (length (ops ++ more)) p) (later i is) ∙ is);
  there = later;
}
  where
    count : length (ops ++ more) ≡ k + length (drop k ops ++ more)
    count = omega (arith, length-append ops more, length-append (drop k ops) more, length-drop k ops)

    left : (j : ℕ) → is_left (length (drop k ops ++ more)) (back_by k p) j ≡ is_left (length (ops ++ more)) p (k + j)
    left j = left_there (length (ops ++ more)) (length (drop k ops ++ more)) k p j past count

    later : (i : ℕ) → is_left (length (ops ++ more)) p i ≡ true → k + (i - k) ≡ i
    later i is = omega (arith, (left_is (length (ops ++ more)) p i is).1)

-- an order without the first operations is one with them, of the same operations
pub undropped : (ops more : List Operation) (k : ℕ) (final_word : Option ℕ) (p : Position) (x : List ℕ) → k ≤ p.first → k ≤ length ops
    → Finishes (drop k ops ++ more) (is_left (length (drop k ops ++ more)) (back_by k p)) p.word final_word x
    → Finishes (ops ++ more) (is_left (length (ops ++ more)) p) p.word final_word (map (λ j. k + j) x)
undropped ops more k final_word p x past within =
    finishes_moved (drop k ops ++ more) (ops ++ more) (is_left (length (drop k ops ++ more)) (back_by k p)) (is_left (length (ops ++ more)) p) (λ j. k + j) (λ i. i - k) p.word final_word x
    (with_first ops more k p past within)

pub same_undropped : (ops more : List Operation) (k : ℕ) (x : List ℕ) → k ≤ length ops → map (at (ops ++ more)) (map (λ j. k + j) x) ≡ map (at (drop k ops ++ more)) x
same_undropped ops more k [] within = refl
same_undropped ops more k (j ∷ x) within = let here = at_dropped ops more k j within in let rest = same_undropped ops more k x within in cc

-- some order finishes what is left if and only if some order does so without the first operations
pub drop_settled : (ops more : List Operation) (k v : ℕ) (p : Position) → k ≤ p.first → k ≤ length ops
    → Ends (ops ++ more) (Some v) p ↔ Ends (drop k ops ++ more) (Some v) (back_by k p)
drop_settled ops more k v p past within = (
  λ (x, c). (
    map (λ i. i - k) x,
    finishes_moved (ops ++ more) (drop k ops ++ more) (is_left (length (ops ++ more)) p) (is_left (length (drop k ops ++ more)) (back_by k p)) (λ i. i - k) (λ j. k + j) p.word (Some v) x
        (moved_home (with_first ops more k p past within)) c,
  ),
  λ (x, c). (map (λ j. k + j) x, undropped ops more k (Some v) p x past within c),
)
