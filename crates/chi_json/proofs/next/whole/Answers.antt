-- the number of the digits
use Rattle.std.proofs.Common.{◌≡◌, ℕ, ◌^◌, ◌<◌, true, List, Some, slice_index, subst, sym, ap, ◌∙◌}
use Rattle.std.specs.Char.{is_ascii_digit}
use Rattle.std.specs.Str.Parse.{IsNumeral, digits_value}
use Rattle.serde_json.specs.Data.{unsigned}
use Rattle.chi_json.proofs.NumberLemmas.{digits_written, no_plus}
use Rattle.chi_json.proofs.next.whole.Goals as goal

pub returns-in-Ok : goal.returns-in-Ok
returns-in-Ok c =
    let s = c.args.text.now in
    let digit : is_ascii_digit (slice_index s 0) ≡ true = subst (λ (t : List ℕ). is_ascii_digit (slice_index t 0) ≡ true) c.as_bytes.ensures.value (sym c.if-not-begins_with_digit.ensures) in
    let read = subst (λ (t : List ℕ). (IsNumeral 10 t × (digits_value 10 t < 2 ^ 64)) × (c.in-Ok.number ≡ digits_value 10 t)) (no_plus s digit) c.in-Ok.ensures.value in
    digits_written s digit read.0.0 read.0.1 ∙ ap (λ n. Some (unsigned n)) (sym read.1)
