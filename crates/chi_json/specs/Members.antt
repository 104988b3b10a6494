-- what a member of an object states, or its fault; the members of a kind of object are an M, with a name each
use Rattle.std.specs.Prelude.{ℕ, List, Option, Result, Ok, Err, replicate}
use Rattle.std.specs.Option.{ok_or, option_map, option_transpose, unwrap_or}
use Rattle.std.specs.Result.{result_map_both}
use Rattle.serde_json.specs.Data.{Data}
use Rattle.serde_json.specs.Find.{get}
use Rattle.chi_json.specs.Values.{image_of, whole_number}
use Rattle.chi_json.specs.declared.member.MemberFault.{MemberFault}
use Rattle.chi_json.specs.declared.member.MemberFault.TheVariants.{Missing, BadMember}

-- the next step of a walk, where this one met no fault
infixl 10 ◌>>=◌
abbrev pub ◌>>=◌ : {A B E : Type 0} → Result A E → (A → Result B E) → Result B E
Ok x >>= f = f x
Err e >>= f = Err e

-- a step of another walk, its fault by another name
abbrev pub or_else : {A E D : Type 0} → (E → D) → Result A E → Result A D
or_else f r = result_map_both (λ x. x) f r

-- a member: first that it is there, then that it is as stated
abbrev pub member_by : {M A : Type 0} → (M → List ℕ) → M → (Data → Option A) → Data → Result A (MemberFault M)
member_by name_of m f d = do
  value ← ok_or (get (name_of m) d) (Missing m)
  ok_or (f value) (BadMember m)

-- one that is a whole number from 0 to a greatest one
unfoldable pub number_of : {M : Type 0} → (M → List ℕ) → M → ℕ → Data → Result ℕ (MemberFault M)
number_of name_of m top d = member_by name_of m (whole_number top) d

-- the words of so many granules that a member states, where it is there
unfoldable pub stated_words : {M : Type 0} → (M → List ℕ) → M → ℕ → Data → Result (Option (List ℕ)) (MemberFault M)
stated_words name_of m granules d = option_transpose (option_map (λ value. ok_or (image_of granules value) (BadMember m)) (get (name_of m) d))

-- the words at the opening: those that a member states, where it is there, and else zeros
unfoldable pub opening_words : {M : Type 0} → (M → List ℕ) → M → ℕ → Data → Result (List ℕ) (MemberFault M)
opening_words name_of m granules d = do
  stated ← stated_words name_of m granules d
  Ok (unwrap_or stated (replicate granules 0))
