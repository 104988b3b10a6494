-- counts to which bins are added
use Rattle.std.proofs.Common.{◌≡◌, ℕ, ◌+◌, ◌^◌, ◌<◌, ◌==◌, Bool, true, false, cond, List, [], ◌∷◌, ◌++◌, count_by, filter, length, map, min, slice_index, refl, sym, ap, subst, ◌∙◌, arith, append-nil, flat_map, get_or, take, zero-add}
use Rattle.std.proofs.lemmas.Grind.{flat_map-append}
use Rattle.std.proofs.lemmas.List.{map-append}
use Rattle.std.specs.List.{range_with_len}
use Rattle.chi_trace.specs.declared.operation.Operation.{Operation}
use Rattle.std.proofs.lemmas.List.Elements.{filter_more}
use Rattle.std.proofs.lemmas.List.Sums.{sum_by-append}
use Rattle.chi_cover.specs.declared.bin.Bin.{Bin}
use Rattle.chi_cover.specs.Added.{AreAdded}
use Rattle.chi_cover.specs.Counts.{bins_at, most}
use Rattle.chi_cover.specs.Numbers.{number_of}
use Rattle.chi_cover.proofs.Lists.{range_more}

-- how many of these bins have a number
abbrev pub times : ℕ → List Bin → ℕ
times n bins = count_by (λ b. number_of b == n) bins

pub times-append : (n : ℕ) (xs ys : List Bin) → times n (xs ++ ys) ≡ times n xs + times n ys
times-append n xs ys = sum_by-append (λ (b : Bin). cond (number_of b == n) 1 0) xs ys

two_sums : (a b c x y top : ℕ) → b ≡ min (a + x) top → c ≡ min (b + y) top → c ≡ min (a + (x + y)) top
two_sums a b c x y top first next = omega arith

-- none
pub added_none : (counts : List ℕ) → ((n : ℕ) → slice_index counts n < 2 ^ 64) → AreAdded [] counts counts
added_none counts bounded = record {
  long = refl;
  each = λ n below. let fits : slice_index counts n < 2 ^ 64 = bounded n in omega arith;
}

-- some, and then others
pub added_then : {xs ys : List Bin} {a b c : List ℕ} → AreAdded xs a b → AreAdded ys b c → AreAdded (xs ++ ys) a c
added_then {xs} {ys} {a} {b} {c} first next = record {
  long = next.long ∙ first.long;
  each = λ n below.
      let inside : n < length b = subst (λ k. n < k) (sym first.long) below in
      two_sums (slice_index a n) (slice_index b n) (slice_index c n) (times n xs) (times n ys) most (first.each n below) (next.each n inside)
      ∙ ap (λ k. min (slice_index a n + k) most) (sym (times-append n xs ys));
}

-- of each item of a list that passes a test a bin: the next item passes it
pub more_yes : {X : Type 0} (f : X → Bin) (p : X → Bool) (xs : List X) (i : ℕ) (d : X) {a b c : List ℕ} → i < length xs → p (get_or xs i d) ≡ true
    → AreAdded (map f (filter p (take i xs))) a b → AreAdded (f (get_or xs i d) ∷ []) b c → AreAdded (map f (filter p (take (i + 1) xs))) a c
more_yes f p xs i d {a} {b} {c} below passes first next =
    let x = get_or xs i d in
    let grown : filter p (take (i + 1) xs) ≡ filter p (take i xs) ++ x ∷ [] = filter_more p xs i d below ∙ ap (λ t. filter p (take i xs) ++ cond t (x ∷ []) []) passes in
    subst (λ bins. AreAdded bins a c) (sym (ap (map f) grown ∙ map-append f (filter p (take i xs)) (x ∷ []))) (added_then first next)

-- or it does not
pub more_no : {X : Type 0} (f : X → Bin) (p : X → Bool) (xs : List X) (i : ℕ) (d : X) {a b : List ℕ} → i < length xs → p (get_or xs i d) ≡ false
    → AreAdded (map f (filter p (take i xs))) a b → AreAdded (map f (filter p (take (i + 1) xs))) a b
more_no f p xs i d {a} {b} below fails first =
    let x = get_or xs i d in
    let same : filter p (take (i + 1) xs) ≡ filter p (take i xs) =
    filter_more p xs i d below ∙ (ap (λ t. filter p (take i xs) ++ cond t (x ∷ []) []) fails ∙ append-nil (filter p (take i xs))) in
    subst (λ bins. AreAdded bins a b) (sym (ap (map f) same)) first

-- the bins of one operation more
pub place_more : (trace : List Operation) (i : ℕ) → flat_map (bins_at trace) (range_with_len 0 (i + 1)) ≡ flat_map (bins_at trace) (range_with_len 0 i) ++ bins_at trace i
place_more trace i =
    ap (flat_map (bins_at trace)) (range_more 0 i) ∙ (flat_map-append (bins_at trace) (range_with_len 0 i) ((0 + i) ∷ [])
    ∙ ap (λ l. flat_map (bins_at trace) (range_with_len 0 i) ++ l) (append-nil (bins_at trace (0 + i)) ∙ ap (bins_at trace) (zero-add i)))
