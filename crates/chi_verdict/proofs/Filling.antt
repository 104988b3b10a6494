-- a list of places while it is filled, and after it was sorted
use Rattle.std.proofs.Common.{◌≡◌, ℕ, ◌+◌, ◌==◌, nat_lt, Bool, true, false, ◌&&◌, List, [], ◌∷◌, ◌++◌, length, refl, sym, ap, subst, ◌∙◌, inl, inr, arith}
use Rattle.std.specs.List.Sorted.{IsPermutation}
use Rattle.std.proofs.lemmas.Bool.{and_right, cases_order, eq-eqb, le-ltb, lt-ltb, ne_eqb}
use Rattle.std.proofs.lemmas.List.{map_push}
use Rattle.std.proofs.lemmas.List.Elements.{All-nil, All-push}
use Rattle.std.proofs.lemmas.List.Sorted.{All-permutation, IsPermutation-map}
use Rattle.chi_history.specs.History.{one_if}
use Rattle.chi_trace.specs.declared.operation.Operation.{Operation}
use Rattle.chi_trace.specs.Explains.{at, is_place, times_in}
use Rattle.chi_trace.specs.Granules.{granule_of}
use Rattle.chi_trace.proofs.Moved.{times_in-append}
use Rattle.chi_trace.proofs.ToldAgain.{times_permuted}
use Rattle.chi_verdict.specs.declared.grouping.Placed.{Placed}
use Rattle.chi_verdict.specs.Groups.{ArePlaced, places_of}

-- each of the first operations that a test leaves is told once
pub record IsFilled (ops : List Operation) (left : ℕ → Bool) (n : ℕ) (run : List Placed) : Type 0 where
  pub placed : ArePlaced ops run
  pub each : (i : ℕ) → times_in (places_of run) i ≡ one_if (nat_lt i n && left i)

-- the operation at a place is of the granule
abbrev pub is_own : List Operation → ℕ → ℕ → Bool
is_own ops g i = granule_of (at ops i) == g

-- a granule and an end that are those of the operation at the place
abbrev pub Tells : List Operation → Placed → Type 0
Tells ops p = (granule_of (at ops p.place) ≡ p.granule) × ((at ops p.place).end ≡ p.end)

pub filled_none : (ops : List Operation) (left : ℕ → Bool) (run : List Placed) → run ≡ [] → IsFilled ops left 0 run
unfolding times_in
filled_none ops left run none = subst (IsFilled ops left 0) (sym none) (record { placed = All-nil (Tells ops); each = λ i. sym (ap (λ b. one_if (b && left i)) (le-ltb i 0 (omega arith))) })

-- how one operation more counts
pub count_more : (left : ℕ → Bool) (n i : ℕ) → one_if (nat_lt i (n + 1) && left i) ≡ one_if (nat_lt i n && left i) + one_if ((n == i) && left n)
count_more left n i = elim (cases_order i n) [
  | inl same ↦
      let now = lt-ltb i (n + 1) (omega arith) in
      let before = le-ltb i n (omega arith) in
      let here = eq-eqb n i (sym same) in
      rw (now, before, here, same) (omega arith)
  | inr (inl below) ↦
      let now = lt-ltb i (n + 1) (omega arith) in
      let before = lt-ltb i n below in
      let other = ne_eqb n i (λ same. omega arith) in
      rw (now, before, other) (omega arith)
  | inr (inr above) ↦
      let now = le-ltb i (n + 1) (omega arith) in
      let before = le-ltb i n (omega arith) in
      let other = ne_eqb n i (λ same. omega arith) in
      rw (now, before, other) refl
]

-- the next operation, where it is left
pub filled_more : (ops : List Operation) (left : ℕ → Bool) (n g : ℕ) (run after : List Placed) (op : Operation) → IsFilled ops left n run
    → left n ≡ true → op ≡ at ops n → granule_of op ≡ g → after ≡ run ++ record { granule = g; end = op.end; place = n } ∷ [] → IsFilled ops left (n + 1) after
unfolding times_in
filled_more ops left n g run after op filled is here granule pushed = subst (IsFilled ops left (n + 1)) (sym pushed) (record {
  placed = All-push (Tells ops) run told filled.placed (ap granule_of (sym here) ∙ granule, ap (λ (o : Operation). o.end) (sym here));
  each = λ i. omega (arith, times i, filled.each i, count_more left n i, own (n == i));
})
  where
    told : Placed
    told = record { granule = g; end = op.end; place = n }

    times : (i : ℕ) → times_in (places_of (run ++ told ∷ [])) i ≡ times_in (places_of run) i + (one_if (n == i) + 0)
    times i = ap (λ x. times_in x i) (map_push (λ (p : Placed). p.place) run told) ∙ times_in-append (places_of run) (n ∷ []) i

    own : (b : Bool) → one_if (b && left n) ≡ one_if b
    own true = ap one_if is
    own false = refl

-- and where it is not
pub filled_without : (ops : List Operation) (left : ℕ → Bool) (n : ℕ) (run : List Placed) → IsFilled ops left n run → left n ≡ false → IsFilled ops left (n + 1) run
filled_without ops left n run filled is = record {
  placed = filled.placed;
  each = λ i. let more = count_more left n i in let none = ap one_if (and_right (n == i) (left n) is) in omega (arith, filled.each i, more, none);
}

pub filled_permuted : (ops : List Operation) (left : ℕ → Bool) (n : ℕ) (run after : List Placed) → IsPermutation run after
    → IsFilled ops left n run → IsFilled ops left n after
filled_permuted ops left n run after same filled = record {
  placed = All-permutation (Tells ops) run after same filled.placed;
  each = λ i. times_permuted (places_of run) (places_of after) i (IsPermutation-map (λ (p : Placed). p.place) run after same) ∙ filled.each i;
}

-- all operations of the trace
pub filled_all : (ops : List Operation) (left : ℕ → Bool) (n : ℕ) (run : List Placed) → n ≡ length ops → IsFilled ops left n run
    → (i : ℕ) → times_in (places_of run) i ≡ one_if (is_place ops i && left i)
filled_all ops left n run all filled i = filled.each i ∙ ap (λ m. one_if (nat_lt i m && left i)) all
