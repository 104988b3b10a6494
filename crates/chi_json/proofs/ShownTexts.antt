-- the bytes that are kept of a text
use Rattle.std.proofs.Common.{◌≡◌, ℕ, ◌-◌, ◌≤◌, ◌<◌, min, Bool, true, false, nat_le, List, ◌++◌, length, replicate, take, drop, refl, arith}
use Rattle.std.proofs.lemmas.Bool.{leb-false, leb-true}
use Rattle.std.proofs.lemmas.List.{drop-replicate, take_all}
use Rattle.chi_json.specs.declared.shown.ShownText.{ShownText}
use Rattle.chi_json.specs.Shown.{shown_text}

-- so many bytes of a text, and zeros after them
pub kept : (s : List ℕ) (count : ℕ) → count ≡ min (length s) 32 → take count s ++ drop count (replicate 32 0) ≡ take 32 s ++ replicate (32 - length s) 0
kept s count is = by_length (nat_le (length s) 32) refl
  where
    by_length : (b : Bool) → nat_le (length s) 32 ≡ b → take count s ++ drop count (replicate 32 0) ≡ take 32 s ++ replicate (32 - length s) 0
    by_length true fits =
        let short : length s ≤ 32 = leb-true (length s) 32 fits in
        let all : length s ≤ count = omega (arith, is) in
        let left : 32 - count ≡ 32 - length s = omega (arith, is) in
        rw (drop-replicate {X = ℕ} count 32 0, take_all count s all, take_all 32 s short, left) refl
    by_length false longer =
        let long : 32 < length s = leb-false (length s) 32 longer in
        let whole : count ≡ 32 = omega (arith, is) in
        let none : 32 - length s ≡ 0 = omega arith in
        rw (whole, none) refl

-- a text of these bytes and this length
pub shown : (s letters : List ℕ) (long : ℕ) → letters ≡ take 32 s ++ replicate (32 - length s) 0 → long ≡ length s
    → ◌≡◌ {A = ShownText} (record { letters = letters; length = long }) (shown_text s)
shown s letters long is counts = rw (is, counts) refl
