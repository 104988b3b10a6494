-- what a cut of a trace has of it
use Rattle.std.proofs.Common.{◌≡◌, ℕ, zero, suc, ◌<◌, ◌≤◌, ◌&&◌, nat_lt, nat_le, Bool, true, false, cond, List, [], ◌∷◌, All, filter, map, length, refl, sym, ap, ◌∙◌, arith, true≢false}
use Rattle.std.proofs.lemmas.Bool.{and_left, leb-true, le-leb, le-ltb, lt-ltb, ltb-false, ltb-true}
use Rattle.std.proofs.lemmas.List.Elements.{All-head, All-tail}
use Rattle.chi_trace.specs.declared.operation.Operation.{Operation}
use Rattle.chi_trace.specs.Cuts.{cut, has_started, operation_at}
use Rattle.chi_trace.specs.Explains.{IsTrace, at, is_place}

pub no_place : (i : ℕ) → is_place [] i ≡ false
no_place i = le-ltb i 0 (omega arith)

pub first_place : (op : Operation) (ts : List Operation) → is_place (op ∷ ts) 0 ≡ true
first_place op ts = lt-ltb 0 (suc (length ts)) (omega arith)

pub next_place : (op : Operation) (ts : List Operation) (k : ℕ) → is_place (op ∷ ts) (suc k) ≡ is_place ts k
next_place op ts k = by_test (nat_lt k (length ts)) refl
  where
    by_test : (b : Bool) → nat_lt k (length ts) ≡ b → is_place (op ∷ ts) (suc k) ≡ b
    by_test true is = let less : k < length ts = ltb-true k (length ts) is in lt-ltb (suc k) (suc (length ts)) (omega arith)
    by_test false is = let past : length ts ≤ k = ltb-false k (length ts) is in le-ltb (suc k) (suc (length ts)) (omega arith)

-- where an operation had not started by a time, none that starts later had
late : (time : ℕ) (op other : Operation) → op.start ≤ other.start → has_started time op ≡ false → has_started time other ≡ false
late time op other later is = by_test (nat_le other.start time) refl
  where
    by_test : (b : Bool) → nat_le other.start time ≡ b → b ≡ false
    by_test true early =
        let before : op.start ≤ time = omega (arith, leb-true other.start time early) in
        absurd (true≢false (sym (le-leb op.start time before) ∙ is))
    by_test false early = refl

none_started : (time : ℕ) (op : Operation) (ts : List Operation) → has_started time op ≡ false → All (λ later. op.start ≤ later.start) ts
    → filter (has_started time) ts ≡ []
none_started time op [] is all = refl
none_started time op (other ∷ ts) is all =
    ap (λ b. cond b (other ∷ filter (has_started time) ts) (filter (has_started time) ts)) (late time op other (All-head (λ later. op.start ≤ later.start) other ts all) is)
    ∙ none_started time op ts is (All-tail (λ later. op.start ≤ later.start) other ts all)

none_there : (time : ℕ) (op : Operation) (ts : List Operation) (k : ℕ) → has_started time op ≡ false → All (λ later. op.start ≤ later.start) ts
    → (is_place ts k && has_started time (at ts k)) ≡ false
none_there time op [] k is all = and_left _ _ (no_place k)
none_there time op (other ∷ ts) zero is all = ap (λ b. b && has_started time other) (first_place other ts) ∙ late time op other (All-head (λ later. op.start ≤ later.start) other ts all) is
none_there time op (other ∷ ts) (suc k) is all =
    ap (λ b. b && has_started time (at ts k)) (next_place other ts k) ∙ none_there time op ts k is (All-tail (λ later. op.start ≤ later.start) other ts all)

-- the operation at this place is that of the trace, where it had started by a time, as it was known then
abbrev pub Shows : List Operation → ℕ → List Operation → ℕ → Type 0
Shows ts time ys i = (is_place ys i ≡ (is_place ts i && has_started time (at ts i))) × (is_place ys i ≡ true → at ys i ≡ operation_at time (at ts i))

pub cut_shows : (ts : List Operation) → IsTrace ts → (time i : ℕ) → Shows ts time (cut time ts) i
unfolding IsTrace
cut_shows [] h time i = (no_place i ∙ sym (and_left _ _ (no_place i)), λ is. absurd (true≢false (sym is ∙ no_place i)))
cut_shows (op ∷ ts) h time i = by_test (has_started time op) refl i (λ k. cut_shows ts h.2 time k)
  where
    not_there : has_started time op ≡ false → (j : ℕ) → Shows (op ∷ ts) time [] j
    not_there is zero = (
      no_place zero ∙ sym (ap (λ b. b && has_started time op) (first_place op ts) ∙ is),
      λ there. absurd (true≢false (sym there ∙ no_place zero)),
    )
    not_there is (suc j) = (
      no_place (suc j) ∙ sym (ap (λ b. b && has_started time (at ts j)) (next_place op ts j) ∙ none_there time op ts j is h.1),
      λ there. absurd (true≢false (sym there ∙ no_place (suc j))),
    )

    by_test : (b : Bool) → has_started time op ≡ b → (k : ℕ) → ((j : ℕ) → Shows ts time (cut time ts) j)
        → Shows (op ∷ ts) time (map (operation_at time) (cond b (op ∷ filter (has_started time) ts) (filter (has_started time) ts))) k
    by_test true is zero rest = (
      first_place (operation_at time op) (cut time ts) ∙ sym (ap (λ b. b && has_started time op) (first_place op ts) ∙ is),
      λ _. refl,
    )
    by_test true is (suc k) rest = (
      next_place (operation_at time op) (cut time ts) k ∙ ((rest k).0 ∙ ap (λ b. b && has_started time (at ts k)) (sym (next_place op ts k))),
      λ there. (rest k).1 (sym (next_place (operation_at time op) (cut time ts) k) ∙ there),
    )
    by_test false is k rest = rw (none_started time op ts is h.1) (not_there is k)
