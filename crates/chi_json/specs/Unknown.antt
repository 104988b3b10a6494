-- the members that an object may have, and the name of one that it may not
use Rattle.std.specs.Prelude.{ℕ, nat_eq, ◌||◌, Bool, if◌then◌else◌, List, codes, Option, None, Some}
use Rattle.std.specs.List.{list_any, starts_with}
use Rattle.std.specs.Str.{bytes_eq}
use Rattle.serde_json.specs.Data.{Members, no_members, member}
use Rattle.chi_json.specs.declared.shown.ShownText.{ShownText}
use Rattle.chi_json.specs.Shown.{shown_text}

-- members whose name begins with `x-` are ignored
abbrev pub is_ignored : List ℕ → Bool
is_ignored s = starts_with nat_eq s (codes "x-")

-- a name is that of one of some members
abbrev pub is_among : {M : Type 0} → (M → List ℕ) → List M → List ℕ → Bool
is_among name_of known s = list_any (λ m. bytes_eq (name_of m) s) known

-- an object that may have the members of some lists may have one of this name
unfoldable pub is_known : {M : Type 0} → (M → List ℕ) → List (List M) → List ℕ → Bool
is_known name_of known s = is_ignored s || list_any (λ members. is_among name_of members s) known

-- the name of the first member that the object may not have
unfoldable pub unknown_in : {M : Type 0} → (M → List ℕ) → List (List M) → Members → Option ShownText
unknown_in name_of known no_members = None
unknown_in name_of known (member s d ms) = if is_known name_of known s then unknown_in name_of known ms else Some (shown_text s)
