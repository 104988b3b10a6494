-- orders of the places of a trace, and what a filter keeps of them
use Rattle.std.proofs.Common.{◌≡◌, ℕ, zero, suc, ◌+◌, ◌<◌, ◌≤◌, ◌==◌, Bool, true, false, cond, List, [], ◌∷◌, All, filter, length, refl, sym, ap, ◌∙◌, arith, eqb-true, true≢false, ltb-true}
use Rattle.std.proofs.lemmas.List.Elements.{All-filter}
use Rattle.chi_history.specs.History.{one_if}
use Rattle.chi_trace.specs.declared.operation.Operation.{Operation}
use Rattle.chi_trace.proofs.Places.{passes}
use Rattle.chi_trace.specs.Explains.{IsInTime, IsOperation, IsTrace, at, is_place, times_in}

-- what is true of each operation of a trace is true of the one at a place
below_length : (trace : List Operation) (i : ℕ) → IsTrace trace → i < length trace → IsOperation (at trace i)
unfolding IsTrace
below_length [] i is below = absurd (omega arith)
below_length (op ∷ trace) zero is below = is.0
below_length (op ∷ trace) (suc i) is below = let rest : i < length trace = omega arith in below_length trace i is.2 rest

pub observed_at : (trace : List Operation) (i : ℕ) → IsTrace trace → is_place trace i ≡ true → IsOperation (at trace i)
observed_at trace i is place = below_length trace i is (ltb-true i (length trace) place)

-- each place of the order is one of the trace
abbrev pub ArePlaces : List Operation → List ℕ → Type 0
ArePlaces trace order = All (λ i. is_place trace i ≡ true) order

pub places_of : (trace : List Operation) (order : List ℕ) → ((i : ℕ) → times_in order i ≤ one_if (is_place trace i)) → ArePlaces trace order
places_of trace order once = passes (is_place trace) order once

-- how often a place stands in what a filter keeps
pub times_in-filter : (p : ℕ → Bool) (x : List ℕ) (i : ℕ) → times_in (filter p x) i ≡ cond (p i) (times_in x i) 0
unfolding times_in
times_in-filter p [] i = by_test (p i) 0
  where
    by_test : (b : Bool) (n : ℕ) → n ≡ cond b n n
    by_test true n = refl
    by_test false n = refl
times_in-filter p (j ∷ x) i = by_test (p j) refl (p i) refl (j == i) refl (times_in-filter p x i)
  where
    by_test : (b : Bool) → p j ≡ b → (c : Bool) → p i ≡ c → (d : Bool) → (j == i) ≡ d → times_in (filter p x) i ≡ cond c (times_in x i) 0
        → times_in (cond b (j ∷ filter p x) (filter p x)) i ≡ cond c (one_if d + times_in x i) 0
    by_test true pj true pi d same h = ap (λ n. one_if (j == i) + n) h ∙ ap (λ b. one_if b + times_in x i) same
    by_test true pj false pi true same h = absurd (true≢false (sym pj ∙ (ap p (eqb-true j i same) ∙ pi)))
    by_test true pj false pi false same h = ap (λ b. one_if b + times_in (filter p x) i) same ∙ omega arith
    by_test false pj true pi true same h = absurd (true≢false (sym pi ∙ (ap p (sym (eqb-true j i same)) ∙ pj)))
    by_test false pj true pi false same h = omega arith
    by_test false pj false pi d same h = h

-- an order in time stays so where operations are left out
pub IsInTime-filter : (trace : List Operation) (p : ℕ → Bool) (x : List ℕ) → IsInTime trace x → IsInTime trace (filter p x)
unfolding IsInTime
IsInTime-filter trace p [] h = tt
IsInTime-filter trace p (j ∷ x) h = by_test (p j) (IsInTime-filter trace p x h.1)
  where
    by_test : (b : Bool) → IsInTime trace (filter p x) → IsInTime trace (cond b (j ∷ filter p x) (filter p x))
    by_test true rest = (All-filter p (λ k. (at trace j).start ≤ (at trace k).end) x h.0, rest)
    by_test false rest = rest
