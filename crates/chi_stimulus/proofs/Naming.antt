-- what a part of a text is, and what weights its entries have: 44 is a comma, and 61 an =
use Rattle.std.proofs.Common.{◌≡◌, ◌<◌, ◌≤◌, ◌+◌, ◌==◌, ◌&&◌, ◌||◌, ◌∙◌, ℕ, suc, zero, Bool, true, false, not, nat_le, nat_lt, if◌then◌else◌, List, [], ◌∷◌, ◌++◌, length, lit<, map, get_or, slice_set, Option, Some, None, Result, Ok, Err, ap, ap₂, sym, refl, arith}
use Rattle.std.specs.Borrow.{Bor}
use Rattle.std.specs.Prelude.{cond, is_some, replicate, reverse}
use Rattle.std.specs.Cmp.Lexicographic.{pointwise}
use Rattle.std.specs.List.{after_first, before_first, filter_map, find, list_all, list_any, position, position_or_len, range_with_len, slice_split}
use Rattle.std.specs.Option.{option_map_or, option_and_then}
use Rattle.std.specs.Result.{result_ok}
use Rattle.std.specs.Str.{all_ascii_digits, bytes_eq}
use Rattle.std.specs.Str.Parse.{ParsesUnsigned, digits_value, without_leading_plus}
use Rattle.std.proofs.lemmas.Bool.{le-leb, lt-leb, lt-ltb}
use Rattle.std.proofs.lemmas.Bool.Decides.{nat_tests}
use Rattle.std.proofs.lemmas.List.{map-append, reverse-append}
use Rattle.std.proofs.lemmas.List.Elements.{filter_map-append}
use Rattle.std.proofs.lemmas.List.Folds.{list_all-append, list_all_at}
use Rattle.std.proofs.lemmas.Str.Parse.{IsNumeralModel, numerals_by_value, tells_all_ascii_digits}
use Rattle.std.proofs.Math.ListN.{drop_of_length-le}
use Rattle.std.specs.Str.Iter.{split_has_more, split_pattern, split_steps, split_text}
use Rattle.std.specs.Str.Pattern.{FindsChar}
use Rattle.std.specs.declared.str.Split.{Split}
use Rattle.std.proofs.lemmas.Iterator.{YieldsList}
use Rattle.std.proofs.lemmas.Iterator.Splits.{YieldsList-from_str_split}
use Rattle.chi_stimulus.specs.Named.{entry_from, entry_of, kinds, mix_of, weight_in, weight_of, weights_of}
use Rattle.chi_stimulus.specs.declared.mix.Entry.{Entry}
use Rattle.chi_stimulus.specs.declared.mix.Mix.{Mix}
use Rattle.chi_stimulus.specs.declared.mix.MixFault.{MixFault}

-- decimal digits and their number, in the words of `weight_in`
own : IsNumeralModel (λ digits. all_ascii_digits digits ≡ true) (digits_value 10)
own = numerals_by_value _ tells_all_ascii_digits

-- a number that is not above 1000
abbrev pub small : ℕ → Option ℕ
small weight = if nat_le weight 1000 then Some weight else None

-- a weight is what `u16::from_str` reads, where it is not above 1000
parsed : {E : Type 0} (text : List ℕ) (r : Result ℕ E) → ParsesUnsigned 16 10 text r → weight_in text ≡ option_and_then small (result_ok r)
unfolding weight_in
parsed text (Ok weight) read =
    rw (lt-ltb 0 (length (without_leading_plus text)) read.0.0.0, own.from (without_leading_plus text) read.0.0.1, read.1) refl
parsed text (Err e) read =
    let digits = without_leading_plus text in
    go (nat_lt 0 (length digits)) (all_ascii_digits digits) (nat_le (digits_value 10 digits) 1000) refl refl refl
  where
    go : (some all few : Bool) → nat_lt 0 (length (without_leading_plus text)) ≡ some → all_ascii_digits (without_leading_plus text) ≡ all
        → nat_le (digits_value 10 (without_leading_plus text)) 1000 ≡ few
        → (if some && (all && few) then Some (digits_value 10 (without_leading_plus text)) else None) ≡ None
    go false all few s a f = refl
    go true false few s a f = refl
    go true true false s a f = refl
    go true true true s a f = absurd (read ((grind (arith, nat_tests), own.to (without_leading_plus text) a), grind (arith, nat_tests)))

pub weight_read : {E : Type 0} (text : List ℕ) (r : Result ℕ E) (weight : Option ℕ) → ParsesUnsigned 16 10 text r → weight ≡ result_ok r → weight_in text ≡ option_and_then small weight
weight_read text r weight read is = parsed text r read ∙ ap (option_and_then small) (sym is)

-- the number that was read, above 1000 or not
pub too_great : (weight : ℕ) → 1000 < weight → small weight ≡ None
too_great weight above = rw (lt-leb weight 1000 above) refl

pub few_enough : (weight : ℕ) → weight ≤ 1000 → small weight ≡ Some weight
few_enough weight within = rw (le-leb weight 1000 within) refl

-- a part that is cut at its first =
pub entry_is : (part name text : List ℕ) (kind weight : Option ℕ) → name ≡ before_first (λ b. b == 61) part → text ≡ after_first (λ b. b == 61) part
    → kind ≡ position (bytes_eq name) kinds → weight_in text ≡ weight → entry_of part ≡ entry_from kind weight
unfolding entry_of
entry_is part name text kind weight before after named written =
    ap₂ (λ (a b : List ℕ). entry_from (position (bytes_eq a) kinds) (weight_in b)) (sym before) (sym after) ∙ ap₂ entry_from (sym named) written

-- a kind alone makes no entry
no_weight : (kind : Option ℕ) → entry_from kind None ≡ None
no_weight None = refl
no_weight (Some kind) = refl

-- a part without a =
pub no_entry : (part : List ℕ) → position_or_len (λ b. b == 61) part ≡ length part → entry_of part ≡ None
unfolding entry_of weight_in
no_entry part none =
    ap (λ (rest : List ℕ). entry_from (position (bytes_eq (before_first (λ b. b == 61) part)) kinds) (weight_in rest)) (gone (omega arith))
    ∙ no_weight (position (bytes_eq (before_first (λ b. b == 61) part)) kinds)
  where
    gone : length part ≤ position_or_len (λ b. b == 61) part + 1 → after_first (λ b. b == 61) part ≡ []
    gone past = drop_of_length-le part past

-- one entry more counts for its kind, and for no other
weight_more : (entries : List Entry) (entry : Entry) (kind : ℕ) → weight_of (entries ++ entry ∷ []) kind ≡ (if entry.kind == kind then entry.weight else weight_of entries kind)
unfolding weight_of
weight_more entries entry kind =
    ap (λ (es : List Entry). option_map_or (λ e. e.weight) (find (λ e. e.kind == kind) es) 0) (reverse-append entries (entry ∷ [])) ∙ go (entry.kind == kind)
  where
    go : (is : Bool) → option_map_or (λ (e : Entry). e.weight) (cond is (Some entry) (find (λ e. e.kind == kind) (reverse entries))) 0
        ≡ (if is then entry.weight else option_map_or (λ (e : Entry). e.weight) (find (λ e. e.kind == kind) (reverse entries)) 0)
    go true = refl
    go false = refl

-- the weight at one of six places
set_weight : (kind weight : ℕ) (before : ℕ → ℕ) → kind < 6
    → map (λ k. if kind == k then weight else before k) (range_with_len 0 6) ≡ slice_set (map before (range_with_len 0 6)) kind weight
set_weight zero weight before within = refl
set_weight (suc zero) weight before within = refl
set_weight (suc (suc zero)) weight before within = refl
set_weight (suc (suc (suc zero))) weight before within = refl
set_weight (suc (suc (suc (suc zero)))) weight before within = refl
set_weight (suc (suc (suc (suc (suc zero))))) weight before within = refl
set_weight (suc (suc (suc (suc (suc (suc kind)))))) weight before within = absurd (omega arith)

weights_more : (entries : List Entry) (entry : Entry) → entry.kind < 6 → weights_of (entries ++ entry ∷ []) ≡ slice_set (weights_of entries) entry.kind entry.weight
weights_more entries entry within = simp (weight_more) (set_weight entry.kind entry.weight (weight_of entries) within)

-- the parts that `split` gives
pub comma_parts : (text : List ℕ) (items parts : Split ℕ) → items ≡ parts → split_text parts ≡ text → split_has_more parts ≡ true → split_pattern parts ≡ 44
    → YieldsList (split_steps FindsChar (λ a b. b ≡ a)) (λ part. part.now) items (slice_split (λ b. b == 44) text)
comma_parts text items parts same is more comma =
    YieldsList-from_str_split 44 text (lit< tt) (ap split_text same ∙ is) (ap split_has_more same ∙ more) (ap split_pattern same ∙ comma)

-- the parts of a text so far, and one more that is an entry
abbrev pub bytes_of : List (Bor (List ℕ)) → List (List ℕ)
bytes_of parts = map (λ part. part.now) parts

-- their weights
pub weights_after : (parts : List (Bor (List ℕ))) (part : Bor (List ℕ)) (entry : Entry) (weights : List ℕ) → entry_of part.now ≡ Some entry → entry.kind < 6
    → weights ≡ weights_of (filter_map entry_of (bytes_of parts)) → slice_set weights entry.kind entry.weight ≡ weights_of (filter_map entry_of (bytes_of (parts ++ part ∷ [])))
weights_after parts part entry weights is within before =
    ap (λ (ws : List ℕ). slice_set ws entry.kind entry.weight) before
    ∙ (sym (weights_more (filter_map entry_of (bytes_of parts)) entry within) ∙ sym (ap weights_of more))
  where
    more : filter_map entry_of (bytes_of (parts ++ part ∷ [])) ≡ filter_map entry_of (bytes_of parts) ++ entry ∷ []
    more = rw (map-append (λ (p : Bor (List ℕ)). p.now) parts (part ∷ []), filter_map-append entry_of (bytes_of parts) (part.now ∷ []), is) refl

-- each is an entry
pub all_after : (parts : List (Bor (List ℕ))) (part : Bor (List ℕ)) (entry : Entry) → entry_of part.now ≡ Some entry
    → list_all (λ p. is_some (entry_of p)) (bytes_of parts) ≡ true → list_all (λ p. is_some (entry_of p)) (bytes_of (parts ++ part ∷ [])) ≡ true
all_after parts part entry is before =
    rw (map-append (λ (p : Bor (List ℕ)). p.now) parts (part ∷ []), list_all-append (λ p. is_some (entry_of p)) (bytes_of parts) (part.now ∷ []), before, is) refl

-- a text with a part that is no entry
pub mix_refused : (text part : List ℕ) (k : ℕ) → (k < length (slice_split (λ b. b == 44) text)) × (part ≡ get_or (slice_split (λ b. b == 44) text) k part)
    → entry_of part ≡ None → mix_of text ≡ Err (record {})
mix_refused text part k at none =
    let is_none : is_some (entry_of (get_or (slice_split (λ b. b == 44) text) k part)) ≡ false = ap (λ p. is_some (entry_of p)) (sym at.1) ∙ ap is_some none in
    rw (list_all_at (λ p. is_some (entry_of p)) (slice_split (λ b. b == 44) text) k part at.0 is_none) refl

-- a test that not all weights are 0
either_is_false : (a b : Bool) → (not a || not b) ≡ not (a && b)
either_is_false true b = refl
either_is_false false b = refl

above_zero : (n : ℕ) → nat_lt 0 n ≡ not (n == 0)
above_zero n = go (nat_lt 0 n) (n == 0) refl refl
  where
    go : (some none : Bool) → nat_lt 0 n ≡ some → (n == 0) ≡ none → some ≡ not none
    go true false s z = refl
    go false true s z = refl
    go true true s z = absurd (grind (arith, nat_tests))
    go false false s z = absurd (grind (arith, nat_tests))

any_weight : (weights : List ℕ) → list_any (nat_lt 0) weights ≡ not (pointwise (λ a b. a == b) weights (replicate (length weights) 0))
any_weight [] = refl
any_weight (w ∷ ws) = rw (above_zero w, any_weight ws) (either_is_false (w == 0) (pointwise (λ a b. a == b) ws (replicate (length ws) 0)))

-- the weights, where all parts are entries and not all weights are 0
abbrev chosen : Bool → List ℕ → Result Mix MixFault
chosen all weights = if all && list_any (nat_lt 0) weights then Ok (record { weights = weights }) else Err (record {})

-- a text of entries
pub mix_is : (text weights : List ℕ) (nothing : Bool) → list_all (λ p. is_some (entry_of p)) (slice_split (λ b. b == 44) text) ≡ true
    → weights ≡ weights_of (filter_map entry_of (slice_split (λ b. b == 44) text)) → nothing ≡ pointwise (λ a b. a == b) weights (0 ∷ 0 ∷ 0 ∷ 0 ∷ 0 ∷ 0 ∷ [])
    → mix_of text ≡ (if nothing then Err (record {}) else Ok (record { weights = weights }))
mix_is text weights nothing all are zeros = ap₂ chosen all (sym are) ∙ (ap (λ (b : Bool). if b then Ok (record { weights = weights }) else Err (record {})) some ∙ turned nothing)
  where
    some : list_any (nat_lt 0) weights ≡ not nothing
    some = any_weight weights ∙ (ap (λ (n : ℕ). not (pointwise (λ a b. a == b) weights (replicate n 0))) (ap length are) ∙ ap not (sym zeros))

    turned : (b : Bool) → ◌≡◌ {A = Result Mix MixFault} (if not b then Ok (record { weights = weights }) else Err (record {})) (if b then Err (record {}) else Ok (record { weights = weights }))
    turned true = refl
    turned false = refl
