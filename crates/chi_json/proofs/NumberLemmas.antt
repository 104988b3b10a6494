-- the number that a text of digits writes
use Rattle.std.proofs.Common.{◌≡◌, ℕ, ◌^◌, ◌<◌, ◌≤◌, Bool, true, false, List, [], length, Some, subst, refl, sym, ap, arith, append-nil, lt-ltb, ne_eqb, leb-true}
use Rattle.std.specs.Prelude.{slice_index, ◌==◌, ◌&&◌}
use Rattle.std.specs.Char.{is_ascii_digit}
use Rattle.std.specs.Str.Parse.{AllDigits, IsNumeral, digits_value, without_leading_plus}
use Rattle.std.proofs.lemmas.Float.Parse.{scan_numeral-text_of}
use Rattle.std.specs.Float.Numeral.{Parts, scan_numeral, text_of}
use Rattle.serde_json.specs.Data.{unsigned}
use Rattle.serde_json.specs.Read.{number_of}

-- the parts of a numeral of digits alone
abbrev parts_of : List ℕ → Parts
parts_of s = record { whole = s; point = false; fraction = []; exponent_negative = false; exponent = []; len = length s }

scanned : (s : List ℕ) → AllDigits 10 s → scan_numeral s ≡ parts_of s
scanned s digits =
    let same : text_of (parts_of s) ≡ s = append-nil s in
    subst (λ (t : List ℕ). scan_numeral t ≡ parts_of s) same (scan_numeral-text_of (parts_of s) (record { whole_digits = digits; fraction_digits = tt; exponent_digits = tt; no_point = λ _. refl; no_exponent = λ _. refl; len_is = sym (ap (λ (t : List ℕ). length t) same) }))

from_48 : (a b : Bool) → (a && b) ≡ true → a ≡ true
from_48 true b is = refl
from_48 false b is = is

-- a digit is no sign
no_sign : (c sign : ℕ) → is_ascii_digit c ≡ true → sign < 48 → (c == sign) ≡ false
no_sign c sign is low =
    let from : 48 ≤ c = leb-true 48 c (from_48 _ _ is) in
    ne_eqb c sign (λ same. omega arith)

-- a text that begins with a digit has no plus before it
pub no_plus : (s : List ℕ) → is_ascii_digit (slice_index s 0) ≡ true → without_leading_plus s ≡ s
no_plus s is = rw (no_sign (slice_index s 0) 43 is (omega arith))

pub digits_written : (s : List ℕ) → is_ascii_digit (slice_index s 0) ≡ true → IsNumeral 10 s → digits_value 10 s < 2 ^ 64 → number_of s ≡ Some (unsigned (digits_value 10 s))
unfolding number_of
digits_written s is numeral below =
    rw (no_sign (slice_index s 0) 45 is (omega arith), scanned s numeral.1, append-nil s, lt-ltb 0 (length s) numeral.0, lt-ltb (digits_value 10 s) (2 ^ 64) below) refl
