-- the digits after `0x`, or all of the text
use Rattle.std.proofs.Common.{◌≡◌, ℕ, Bool, true, false, ◌&&◌, nat_eq, [], ◌∷◌, codes, Ok, Err, refl, ap, sym, ◌∙◌}
use Rattle.std.proofs.lemmas.Bool.{eqb-true}
use Rattle.std.specs.List.{starts_with}
use Rattle.clap.specs.Walk.{Text}
use Rattle.std.specs.Result.{OkIff, result_ok}
use Rattle.std.specs.Prelude.{Result}
use Rattle.chi_check.specs.OptionValues.{digits_of, radix_of}
use Rattle.chi_check.proofs.option_values.address.Goals as goal

-- a result whose error says nothing
abbrev silent : {A E : Type 0} → Result A E → Result A (Unit {0})
silent (Ok a) = Ok a
silent (Err e) = Err tt

silent_reads : {E : Type 0} (r : Result ℕ E) (P : Type 0) (n : ℕ) → OkIff r P n → OkIff (silent r) P n
silent_reads (Ok a) P n is = is
silent_reads (Err e) P n is = is

silent_ok : {E : Type 0} (r : Result ℕ E) → result_ok (silent r) ≡ result_ok r
silent_ok (Ok a) = refl
silent_ok (Err e) = refl

-- a text that begins with `0x`, and another
prefixed : (text digits : Text) → text ≡ 48 ∷ 120 ∷ digits → (radix_of text ≡ 16) × (digits_of text ≡ digits)
prefixed text digits is = (ap radix_of is, ap digits_of is)

both : (a b : ℕ) (rest : Text) (x y : Bool) → nat_eq 48 a ≡ x → nat_eq 120 b ≡ y → ((more : Text) → a ∷ b ∷ rest ≡ 48 ∷ 120 ∷ more → ⊥) → x && (y && true) ≡ false
both a b rest true true e f other = absurd (other rest (ap (λ n. n ∷ b ∷ rest) (sym (eqb-true 48 a e)) ∙ ap (λ n. 48 ∷ n ∷ rest) (sym (eqb-true 120 b f))))
both a b rest true false e f other = refl
both a b rest false y e f other = refl

first : (x : Bool) → x && false ≡ false
first true = refl
first false = refl

unprefixed : (text : Text) → ((rest : Text) → text ≡ 48 ∷ 120 ∷ rest → ⊥) → starts_with nat_eq text (codes "0x") ≡ false
unprefixed [] other = refl
unprefixed (a ∷ []) other = first (nat_eq 48 a)
unprefixed (a ∷ b ∷ rest) other = both a b rest (nat_eq 48 a) (nat_eq 120 b) refl refl other

pub returns-in-Some : goal.returns-in-Some
returns-in-Some c =
    let cases = c.in-Some.ensures.cases in
    let is = prefixed c.args.text.now c.in-Some.digits.now (cases.1.1 ∙ ap (λ (rest : Text). 48 ∷ 120 ∷ rest) (sym cases.2)) in
    (silent c.from_str_radix.result, rw (is.0, is.1) (silent_reads c.from_str_radix.result _ _ c.from_str_radix.ensures.value), c.ok.ensures.value ∙ sym (silent_ok c.from_str_radix.result))

pub returns-in-None : goal.returns-in-None
returns-in-None c =
    let other = unprefixed c.args.text.now c.in-None.ensures.cases in
    (silent c.from_str_radix-in-None.result, rw other (silent_reads c.from_str_radix-in-None.result _ _ c.from_str_radix-in-None.ensures.value), c.ok-in-None.ensures.value ∙ sym (silent_ok c.from_str_radix-in-None.result))
