-- operations that come next in turn
use Rattle.std.proofs.Common.{◌≡◌, ℕ, ◌+◌, ◌≤◌, ◌==◌, ◌&&◌, not, nat_lt, true, List, [], ◌∷◌, All, length, take, Some, refl, sym, ap, subst, ◌∙◌, arith, inl, inr}
use Rattle.std.specs.Prelude.{slice_get}
use Rattle.std.specs.List.{Contains}
use Rattle.std.proofs.lemmas.Bool.{cases_lt}
use Rattle.std.proofs.lemmas.List.{take_all}
use Rattle.std.proofs.lemmas.List.Elements.{All-contains, All-push}
use Rattle.chi_trace.specs.declared.operation.Operation.{Operation}
use Rattle.chi_trace.specs.Explains.{at}
use Rattle.chi_trace.specs.Granules.{Fits, next}
use Rattle.chi_search.specs.Moves.{CanCome, Comes, Takes}
use Rattle.chi_search.specs.Positions.{IsReady, Position, is_left, is_unsettled}
use Rattle.chi_search.proofs.Elements.{read_more}
use Rattle.chi_search.proofs.Settling.{left_is}

-- two positions at which the same operations are left, with the same word
pub record AreAlike (p q : Position) : Type 0 where
  pub first : p.first ≡ q.first
  pub word : p.word ≡ q.word
  pub unsettled : (j : ℕ) → is_unsettled p j ≡ is_unsettled q j

-- the one begins no later than the other where the same operations are left
begins : (n : ℕ) (p q : Position) → IsReady n p → IsReady n q → ((j : ℕ) → is_unsettled p j ≡ is_unsettled q j) → q.first ≤ p.first
begins n p q one other same = elim (cases_lt p.first n) [
  | inl below ↦
      let left : is_left n q p.first ≡ true = ap (λ b. nat_lt p.first n && b) (sym (same p.first)) ∙ one.left below in
      (left_is n q p.first left).1
  | inr past ↦ omega (arith, past, other.within)
]

-- where an operation leads, as positions that are ready, is alike
pub taken_alike : (ops : List Operation) (p r s : Position) (i : ℕ) → IsReady (length ops) r → IsReady (length ops) s → Takes ops p i r → Takes ops p i s → AreAlike r s
taken_alike ops p r s i one other first second =
    record {
      first = let here = begins (length ops) r s one other same in let there = begins (length ops) s r other one (λ j. sym (same j)) in omega (arith, here, there);
      word = first.word ∙ sym second.word;
      unsettled = same;
    }
  where
    same : (j : ℕ) → is_unsettled r j ≡ is_unsettled s j
    same j = first.left j ∙ sym (second.left j)

-- what comes next from a position comes next from one that is alike
pub comes_alike : (ops : List Operation) (p q r : Position) (order : List ℕ) → AreAlike p q → Comes ops p order r → (s : Position) × Comes ops q order s
unfolding Comes
comes_alike ops p q r [] alike comes = (q, refl)
comes_alike ops p q r (i ∷ order) alike (t, ready, can, takes, rest) = (r, (t, ready, can_too, takes_too, rest))
  where
    can_too : CanCome ops q i
    can_too = (
      ap (λ b. nat_lt i (length ops) && b) (sym (alike.unsettled i)) ∙ can.0,
      subst (λ k. (at ops i).start ≤ (at ops k).end) alike.first can.1,
    )

    takes_too : Takes ops q i t
    takes_too = record {
      fits = subst (Fits (at ops i)) alike.word takes.fits;
      word = takes.word ∙ ap (next (at ops i)) alike.word;
      left = λ j. takes.left j ∙ ap (λ b. b && not (j == i)) (alike.unsettled j);
    }

-- where none is left to come
pub comes_none : (ops : List Operation) (p : Position) → Comes ops p [] p
unfolding Comes
comes_none ops p = refl

-- what comes next after an operation comes next with it before
pub comes_with : (ops : List Operation) (p r q : Position) (i : ℕ) (order : List ℕ) → IsReady (length ops) r → CanCome ops p i → Takes ops p i r → Comes ops r order q
    → Comes ops p (i ∷ order) q
unfolding Comes
comes_with ops p r q i order ready can takes comes = (r, ready, can, takes, comes)

-- the operation with which it begins can come, and fits the word
pub comes_first : (ops : List Operation) (p q : Position) (i : ℕ) (order : List ℕ) → Comes ops p (i ∷ order) q → CanCome ops p i × Fits (at ops i) p.word
unfolding Comes
comes_first ops p q i order (r, ready, can, takes, rest) = (can, takes.fits)

-- and what comes next after it comes next wherever it leads
pub comes_after : (ops : List Operation) (p r q : Position) (i : ℕ) (order : List ℕ) → IsReady (length ops) r → Takes ops p i r → Comes ops p (i ∷ order) q
    → (s : Position) × Comes ops r order s
unfolding Comes
comes_after ops p r q i order ready takes (t, other, can, leads, rest) = comes_alike ops t r q order (taken_alike ops p t r i other ready leads takes) rest

-- from the position they cannot come next in turn
abbrev pub NoneComes : List Operation → List ℕ → Position → Type 0
NoneComes ops order p = (q : Position) → Comes ops p order q → ⊥

-- nor from one more
pub none_comes : (ops : List Operation) (order : List ℕ) (positions : List Position) (k : ℕ) (p : Position) → slice_get positions k ≡ Some p
    → All (NoneComes ops order) (take k positions) → NoneComes ops order p → All (NoneComes ops order) (take (k + 1) positions)
none_comes ops order positions k p is before none =
    subst (All (NoneComes ops order)) (sym (read_more positions k p is)) (All-push (NoneComes ops order) (take k positions) p before none)

-- nor from any
pub none_comes_at_all : (ops : List Operation) (order : List ℕ) (positions : List Position) (k : ℕ) → length positions ≤ k → All (NoneComes ops order) (take k positions)
    → (p q : Position) → Contains positions p → Comes ops p order q → ⊥
none_comes_at_all ops order positions k whole none p q has comes =
    All-contains (NoneComes ops order) positions p (subst (All (NoneComes ops order)) (take_all k positions whole) none) has q comes
