-- the moves from a position, and the orders that go on from it
use Rattle.std.proofs.Common.{◌≡◌, ℕ, suc, zero, ◌^◌, ◌<◌, ◌≤◌, ◌==◌, ◌⊎◌, nat_le, nat_lt, Bool, true, false, not, List, [], ◌∷◌, All, get_or, length, Option, None, IfSome, refl, sym, ap, subst, ◌∙◌, arith, inl, inr, le-ltb, eqb-true, ◌&&◌}
use Rattle.std.proofs.lemmas.Bool.{and_left, and_parts, cases_lt}
use Rattle.std.proofs.lemmas.Bool.Decides.{nat_tests}
use Rattle.chi_history.specs.History.{one_if}
use Rattle.chi_trace.specs.declared.operation.Operation.{Operation}
use Rattle.chi_trace.specs.Explains.{IsInTime, at, nothing, times_in}
use Rattle.chi_trace.specs.Granules.{Finishes, Play, last_word}
use Rattle.chi_trace.proofs.Places.{of_member, passes}
use Rattle.chi_search.specs.Moves.{ByTaking, CanCome, Drops, Ends, IsIdle, Takes}
use Rattle.chi_search.specs.Positions.{IsReady, Position, is_left}
use Rattle.chi_search.specs.Searchable.{AreSorted}
use Rattle.chi_search.proofs.Settling.{left_is, left_settles}
use Rattle.chi_search.proofs.Covers.{parts, without}
use Rattle.chi_search.proofs.Orders.{absent, cons, covers_of, first_fits, first_left, idle_first, peel, settled_without, without_one}

-- the first operation ends first
pub first_ends : (ops : List Operation) (p : Position) (i : ℕ) → AreSorted ops → is_left (length ops) p i ≡ true → (at ops p.first).end ≤ (at ops i).end
first_ends ops p i sorted left = let is = left_is (length ops) p i left in sorted.0 p.first i is.1 is.0

-- an order after an operation was taken
pub from_taken : (ops : List Operation) (final_word : Option ℕ) (p q : Position) (i : ℕ) (x : List ℕ) → AreSorted ops → CanCome ops p i → Takes ops p i q → q.word < 2 ^ 64
    → Finishes ops (is_left (length ops) q) q.word final_word x → Finishes ops (is_left (length ops) p) p.word final_word (i ∷ x)
from_taken ops final_word p q i x sorted comes takes below c =
    cons ops (is_left (length ops) p) (is_left (length ops) q) p.word final_word i x (parts (is_left (length ops) p) (is_left (length ops) q) i comes.0 (left_settles (length ops) p i q takes.left)) takes.fits
    (subst (λ w. w < 2 ^ 64) takes.word below) early (subst (λ w. Finishes ops (is_left (length ops) q) w final_word x) takes.word c)
  where
    early : All (λ k. (at ops i).start ≤ (at ops k).end) x
    early k d under =
        let j : ℕ = get_or x k d in
        let left_q : is_left (length ops) q j ≡ true = passes (is_left (length ops) q) x c.once k d under in
        let left_p : is_left (length ops) p j ≡ true = (and_parts (is_left (length ops) p j) (not (j == i)) (sym (left_settles (length ops) p i q takes.left j) ∙ left_q)).0 in
        let ends : (at ops p.first).end ≤ (at ops j).end = first_ends ops p j sorted left_p in
        let starts : (at ops i).start ≤ (at ops p.first).end = comes.1 in
        omega (arith, starts, ends)

-- an order after the first operation was left out
pub from_dropped : (ops : List Operation) (final_word : Option ℕ) (p q : Position) (x : List ℕ) → IsReady (length ops) p → p.first < length ops → Drops ops p q
    → Finishes ops (is_left (length ops) q) q.word final_word x → Finishes ops (is_left (length ops) p) p.word final_word x
from_dropped ops final_word p q x ready below drops c =
    without_one ops (is_left (length ops) p) (is_left (length ops) q) p.word final_word p.first x (parts (is_left (length ops) p) (is_left (length ops) q) p.first (ready.left below) (left_settles (length ops) p p.first q drops.left))
    drops.unanswered (subst (λ w. Finishes ops (is_left (length ops) q) w final_word x) drops.word c)

-- An order that goes on begins by an operation, or without the first.
abbrev pub ByDropping : List Operation → Option ℕ → Position → Type 0
ByDropping ops final_word p = ((at ops p.first).reply ≡ None) × ((q : Position) → Drops ops p q → Ends ops final_word q)

dropping : (ops : List Operation) (final_word : Option ℕ) (p : Position) (x : List ℕ) → IsReady (length ops) p → p.first < length ops → times_in x p.first ≡ 0
    → Finishes ops (is_left (length ops) p) p.word final_word x → ByDropping ops final_word p
dropping ops final_word p x ready below none c = (
  absent ops (is_left (length ops) p) p.first x (ready.left below) none (covers_of ops (is_left (length ops) p) p.word final_word x c),
  λ q drops. (
    x,
    subst (λ w. Finishes ops (is_left (length ops) q) w final_word x) (sym drops.word)
        (settled_without ops (is_left (length ops) p) (is_left (length ops) q) p.word final_word p.first x
        (parts (is_left (length ops) p) (is_left (length ops) q) p.first (ready.left below) (left_settles (length ops) p p.first q drops.left)) none c),
  ),
)

-- an order goes on by the operation with which it begins, where that can come next
pub by_first : (ops : List Operation) (final_word : Option ℕ) (p : Position) (i : ℕ) (y : List ℕ) → CanCome ops p i → Finishes ops (is_left (length ops) p) p.word final_word (i ∷ y)
    → ByTaking ops final_word p i
by_first ops final_word p i y comes c =
    let fits = first_fits ops (is_left (length ops) p) p.word final_word i y c in (
      comes,
      fits.0,
      fits.1,
      λ q takes. (
        y,
        subst (λ w. Finishes ops (is_left (length ops) q) w final_word y) (sym takes.word)
            (peel ops (is_left (length ops) p) (is_left (length ops) q) p.word final_word i y (parts (is_left (length ops) p) (is_left (length ops) q) i comes.0 (left_settles (length ops) p i q takes.left)) c),
      ),
    )

-- an operation that comes first starts no later than the first that is left ends, where that stands in the order
pub begins_early : (ops : List Operation) (p : Position) (i : ℕ) (y : List ℕ) → AreSorted ops → is_left (length ops) p i ≡ true → IsInTime ops (i ∷ y)
    → 0 < times_in (i ∷ y) p.first → (at ops i).start ≤ (at ops p.first).end
unfolding times_in IsInTime
begins_early ops p i y sorted left times some = by_test (i == p.first) refl
  where
    by_test : (b : Bool) → (i == p.first) ≡ b → (at ops i).start ≤ (at ops p.first).end
    by_test true same =
        let lasts : (at ops i).start ≤ (at ops i).end = sorted.1 i nothing (left_is (length ops) p i left).0 in
        subst (λ k. (at ops i).start ≤ (at ops k).end) (eqb-true i p.first same) lasts
    by_test false other =
        let later : 0 < times_in y p.first = omega (arith, some, ap one_if other) in
        of_member (λ k. (at ops i).start ≤ (at ops k).end) y p.first times.0 later

pub goes_on : (ops : List Operation) (final_word : Option ℕ) (p : Position) (x : List ℕ) → AreSorted ops → IsReady (length ops) p → p.first < length ops
    → Finishes ops (is_left (length ops) p) p.word final_word x → ((i : ℕ) × ByTaking ops final_word p i) ⊎ ByDropping ops final_word p
unfolding times_in
goes_on ops final_word p [] sorted ready below c = inr (dropping ops final_word p [] ready below refl c)
goes_on ops final_word p (i ∷ y) sorted ready below c = by_times (times_in (i ∷ y) p.first) refl
  where
    left : is_left (length ops) p i ≡ true
    left = first_left ops (is_left (length ops) p) p.word final_word i y c

    by_times : (n : ℕ) → times_in (i ∷ y) p.first ≡ n → ((i : ℕ) × ByTaking ops final_word p i) ⊎ ByDropping ops final_word p
    by_times zero none = inr (dropping ops final_word p (i ∷ y) ready below none c)
    by_times (suc n) some =
        inl (i, by_first ops final_word p i y (left, begins_early ops p i y sorted left c.times (omega (arith, some))) c)

-- an operation that changes nothing may come first wherever it can
pub from_idle : (ops : List Operation) (final_word : Option ℕ) (p q : Position) (i : ℕ) → p.word < 2 ^ 64 → CanCome ops p i → IsIdle (at ops i) → Takes ops p i q
    → Ends ops final_word p → Ends ops final_word q
from_idle ops final_word p q i below comes idle takes (x, c) = (
  without i x,
  subst (λ w. Finishes ops (is_left (length ops) q) w final_word (without i x)) (sym (takes.word ∙ idle p.word below takes.fits))
      (idle_first ops (is_left (length ops) p) (is_left (length ops) q) p.word final_word i x (parts (is_left (length ops) p) (is_left (length ops) q) i comes.0 (left_settles (length ops) p i q takes.left)) idle below c),
)

-- where none is left the order is done
none_left : (n : ℕ) (p : Position) (i : ℕ) → n ≤ p.first → is_left n p i ≡ false
none_left n p i past = elim (cases_lt i n) [
  | inl below ↦
      let before : nat_le p.first i ≡ false = grind (arith, nat_tests) in
      rw before (neither (nat_lt i n))
  | inr above ↦ and_left (nat_lt i n) _ (le-ltb i n above)
]
  where
    neither : (b : Bool) → (b && false) ≡ false
    neither true = refl
    neither false = refl

pub ended : (ops : List Operation) (final_word : Option ℕ) (p : Position) → length ops ≤ p.first → IfSome final_word (λ v. p.word ≡ v)
    → Finishes ops (is_left (length ops) p) p.word final_word []
unfolding IsInTime Play times_in last_word
ended ops final_word p past is = record {
  done = λ i. rw (none_left (length ops) p i past) (omega arith);
  once = λ i. omega arith;
  times = tt;
  plays = tt;
  ending = is;
}

pub at_end : (ops : List Operation) (final_word : Option ℕ) (p : Position) (x : List ℕ) → length ops ≤ p.first → Finishes ops (is_left (length ops) p) p.word final_word x
    → IfSome final_word (λ v. p.word ≡ v)
unfolding last_word
at_end ops final_word p [] past c = c.ending
at_end ops final_word p (i ∷ y) past c =
    let is = left_is (length ops) p i (first_left ops (is_left (length ops) p) p.word final_word i y c) in absurd (omega (arith, is.0, is.1))
