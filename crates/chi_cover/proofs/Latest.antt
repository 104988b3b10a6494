-- of operations that are alike the one that ends last
use Rattle.std.proofs.Common.{◌≡◌, ℕ, ◌+◌, ◌<◌, ◌&&◌, ◌||◌, not, Bool, true, false, cond, nat_le, List, [], ◌∷◌, ◌++◌, All, filter, get_or, length, refl, sym, ap, ◌∙◌, arith}
use Rattle.std.specs.List.{list_any}
use Rattle.std.proofs.lemmas.Bool.{both_ways, false_from_ne_true, not-true, not_from_false, or_left, or_right, true≢false}
use Rattle.std.proofs.lemmas.List.Elements.{All-filter, All-push, filter_passes}
use Rattle.std.proofs.lemmas.List.Folds.{list_any-append, list_any_at}
use Rattle.std.proofs.lemmas.List.Kept.{AllPairs-filter}
use Rattle.std.proofs.lemmas.List.Quantifiers.{all_pairs_push}
use Rattle.std.proofs.lemmas.Map.Views.{any-filter_same}
use Rattle.chi_trace.specs.declared.operation.Operation.{Operation}
use Rattle.chi_trace.specs.Explains.{at}
use Rattle.chi_cover.specs.Open.{AreLatest, AreUnlike, are_alike, ended_after, has_alike, outlasts}
use Rattle.chi_cover.proofs.Likeness.{any_filtered, any_implied, outlasting, unlike}

-- Of some places and one more those are left out that it outlasts, and itself where one of the others outlasts it: a test that
-- goes over to what outlasts finds as much as before.
any_kept : (outlasted outlasting test : ℕ → Bool) (i : ℕ) (ks : List ℕ)
    → ((k : ℕ) → outlasted k ≡ true → test k ≡ true → test i ≡ true) → ((k : ℕ) → outlasting k ≡ true → test i ≡ true → test k ≡ true)
    → list_any test (cond (list_any outlasting (filter (λ k. not (outlasted k)) ks)) (filter (λ k. not (outlasted k)) ks) (filter (λ k. not (outlasted k)) ks ++ i ∷ []))
    ≡ list_any test (ks ++ i ∷ [])
any_kept outlasted outlasting test i ks over back = by_test (test i) refl
  where
    others : List ℕ
    others = filter (λ k. not (outlasted k)) ks

    or_false : (t : Bool) → (t || false) ≡ t
    or_false true = refl
    or_false false = refl

    last : (js : List ℕ) → test i ≡ true → list_any test (js ++ i ∷ []) ≡ true
    last js here = list_any-append test js (i ∷ []) ∙ or_right (list_any test js) (test i || false) (or_left (test i) false here)

    no_last : (js : List ℕ) → test i ≡ false → list_any test (js ++ i ∷ []) ≡ list_any test js
    no_last js other = list_any-append test js (i ∷ []) ∙ (ap (λ t. list_any test js || (t || false)) other ∙ or_false (list_any test js))

    outlasting_one : test i ≡ true → (some : Bool) → list_any outlasting others ≡ some → list_any test (cond some others (others ++ i ∷ [])) ≡ true
    outlasting_one here true found = any_implied outlasting test (λ k longer. back k longer here) others found
    outlasting_one here false none = last others here

    as_others : test i ≡ false → (some : Bool) → list_any test (cond some others (others ++ i ∷ [])) ≡ list_any test others
    as_others other true = refl
    as_others other false = no_last others other

    left_in : test i ≡ false → (k : ℕ) → test k ≡ true → not (outlasted k) ≡ true
    left_in other k passes = not_from_false (outlasted k) (false_from_ne_true (outlasted k) (λ longer. true≢false (sym (over k longer passes) ∙ other)))

    by_test : (here : Bool) → test i ≡ here → list_any test (cond (list_any outlasting others) others (others ++ i ∷ [])) ≡ list_any test (ks ++ i ∷ [])
    by_test true here = outlasting_one here (list_any outlasting others) refl ∙ sym (last ks here)
    by_test false other =
        as_others other (list_any outlasting others) ∙ (any-filter_same test (λ k. not (outlasted k)) true (left_in other) ks ∙ sym (no_last ks other))

-- those of some places that are left beside one more, and those that are kept
abbrev pub others_of : List Operation → List ℕ → Operation → List ℕ
others_of trace places op = filter (λ j. not (outlasts op (at trace j))) places

abbrev pub kept_of : List Operation → List ℕ → Operation → ℕ → List ℕ
kept_of trace others op i = cond (list_any (λ j. outlasts (at trace j) op) others) others (others ++ i ∷ [])

-- at each time they have one that is alike where all have
same_kept : (trace : List Operation) (places : List ℕ) (i time : ℕ) (op : Operation)
    → has_alike trace (ended_after trace time (kept_of trace (others_of trace places (at trace i)) (at trace i) i)) op ≡ has_alike trace (ended_after trace time (places ++ i ∷ [])) op
same_kept trace places i time op =
    let is_open : ℕ → Bool = λ j. nat_le time (at trace j).end in
    let is_alike : ℕ → Bool = λ j. are_alike (at trace j) op in
    any_filtered is_open is_alike (kept_of trace (others_of trace places (at trace i)) (at trace i) i)
    ∙ (any_kept (λ j. outlasts (at trace i) (at trace j)) (λ j. outlasts (at trace j) (at trace i)) (λ j. is_open j && is_alike j) i places
    (λ j longer open_then. outlasting (at trace i) (at trace j) op time longer open_then)
    (λ j longer open_then. outlasting (at trace j) (at trace i) op time longer open_then)
    ∙ sym (any_filtered is_open is_alike (places ++ i ∷ [])))

-- no two of them are alike
unlike_kept : (trace : List Operation) (places : List ℕ) (i : ℕ) → AreUnlike trace places → AreUnlike trace (kept_of trace (others_of trace places (at trace i)) (at trace i) i)
unlike_kept trace places i apart = by_test (list_any outlasting_it others) refl
  where
    others : List ℕ
    others = others_of trace places (at trace i)

    outlasting_it : ℕ → Bool
    outlasting_it j = outlasts (at trace j) (at trace i)

    left : AreUnlike trace others
    left = AllPairs-filter (λ j k. are_alike (at trace j) (at trace k) ≡ false) (λ j. not (outlasts (at trace i) (at trace j))) places apart

    last : list_any outlasting_it others ≡ false → (k d : ℕ) → k < length others → are_alike (at trace (get_or others k d)) (at trace i) ≡ false
    last none k d below =
        let j = get_or others k d in
        let not_other : outlasting_it j ≡ false = false_from_ne_true (outlasting_it j) (λ longer. both_ways (list_any outlasting_it others) none (list_any_at outlasting_it others k d below longer)) in
        unlike (at trace j) (at trace i) not_other (not-true _ (filter_passes (λ j. not (outlasts (at trace i) (at trace j))) places k d below))

    by_test : (test : Bool) → list_any outlasting_it others ≡ test → AreUnlike trace (cond test others (others ++ i ∷ []))
    by_test true some = left
    by_test false none = all_pairs_push (λ j k. are_alike (at trace j) (at trace k) ≡ false) others i left (last none)

pub latest_kept : (trace : List Operation) (places : List ℕ) (i : ℕ) → AreUnlike trace places → AreLatest trace (places ++ i ∷ []) (kept_of trace (others_of trace places (at trace i)) (at trace i) i)
latest_kept trace places i apart = record { unlike = unlike_kept trace places i apart; same = same_kept trace places i }

-- they are among the first
pub first_kept : (trace : List Operation) (places : List ℕ) (op : Operation) (i : ℕ) → All (λ j. j < i) places → All (λ j. j < i + 1) (kept_of trace (others_of trace places op) op i)
first_kept trace places op i before = by_test (list_any (λ j. outlasts (at trace j) op) others)
  where
    others : List ℕ
    others = others_of trace places op

    first : All (λ j. j < i + 1) others
    first = All-filter _ (λ j. j < i + 1) places (λ k d under. let there = before k d under in omega (arith, there))

    by_test : (test : Bool) → All (λ j. j < i + 1) (cond test others (others ++ i ∷ []))
    by_test true = first
    by_test false = All-push (λ j. j < i + 1) others i first (omega arith)
