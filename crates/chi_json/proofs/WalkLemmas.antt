-- what is true of what a walk comes to
use Rattle.std.proofs.Common.{◌≡◌, ℕ, ◌≤◌, nat_le, Bool, true, false, if◌then◌else◌, List, Option, None, Some, Result, Ok, Err, IfOk, IfSome, refl, subst}
use Rattle.std.specs.Prelude.{ok_or, option_and_then}
use Rattle.std.proofs.lemmas.Bool.{leb-true}
use Rattle.serde_json.specs.Data.{Data}
use Rattle.serde_json.specs.Find.{get, as_number, as_u64}
use Rattle.chi_json.specs.Members.{◌>>=◌, number_of, or_else}
use Rattle.chi_json.specs.Values.{up_to, whole_number}
use Rattle.chi_json.specs.declared.member.MemberFault.TheVariants.{Missing, BadMember}

-- a later step of a walk keeps P
pub then_ok : {A B E : Type 0} (x : Result A E) (f : A → Result B E) (P : B → Type 0) → ((a : A) → x ≡ Ok a → IfOk (f a) P) → IfOk (x >>= f) P
then_ok (Ok a) f P h = h a refl
then_ok (Err e) f P h = tt

-- P of a value that is there
pub at_ok : {A E : Type 0} (x : Result A E) (a : A) (P : A → Type 0) → x ≡ Ok a → IfOk x P → P a
at_ok x a P e h = subst (λ r. IfOk r P) e h

-- P where a fault has another name
pub renamed : {A E D : Type 0} (f : E → D) (r : Result A E) (P : A → Type 0) → IfOk r P → IfOk (or_else f r) P
renamed f (Ok a) P h = h
renamed f (Err e) P h = tt

-- a step that meets no fault by another name meets none
pub no_fault : {A E D : Type 0} (f : E → D) (r : Result A E) (a : A) → Ok a ≡ or_else f r → r ≡ Ok a
no_fault f (Ok b) a is = cc is
no_fault f (Err e) a is = cc is

-- P of a value, where no value is told as a fault
pub present : {A E : Type 0} (o : Option A) (e : E) (P : A → Type 0) → IfSome o P → IfOk (ok_or o e) P
present (Some a) e P h = h
present None e P h = tt

-- by cases on the test
tested : {E : Type 0} (top n : ℕ) (b : Bool) (e : E) → nat_le n top ≡ b → IfOk (ok_or (if b then Some n else None) e) (λ m. m ≤ top)
tested top n true e t = leb-true n top t
tested top n false e t = tt

-- by cases on whether there is a number
numbered : {E : Type 0} (top : ℕ) (o : Option ℕ) (e : E) → IfOk (ok_or (option_and_then (up_to top) o) e) (λ m. m ≤ top)
numbered top None e = tt
numbered top (Some n) e = tested top n (nat_le n top) e refl

-- a number of the walk is at most its greatest one
pub number_within : {M : Type 0} (name_of : M → List ℕ) (m : M) (top : ℕ) (d : Data) → IfOk (number_of name_of m top d) (λ n. n ≤ top)
unfolding number_of
number_within name_of m top d =
    then_ok (ok_or (get (name_of m) d) (Missing m)) (λ v. ok_or (whole_number top v) (BadMember m)) (λ n. n ≤ top)
    (λ v e. numbered top (option_and_then as_u64 (as_number v)) (BadMember m))
