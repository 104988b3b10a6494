-- the names of an object's members, one by one
use Rattle.std.proofs.Common.{◌≡◌, ℕ, ◌||◌, Bool, if◌then◌else◌, List, map, [], ◌∷◌, Option, None, Some, String, Global, string_bytes, refl, ap}
use Rattle.std.specs.List.{list_any}
use Rattle.std.specs.Map.{keys_of}
use Rattle.serde_json.specs.View.{members_view}
use Rattle.serde_json.specs.declared.value.Value.{Value}
use Rattle.chi_json.specs.declared.shown.ShownText.{ShownText}
use Rattle.chi_json.specs.Shown.{shown_text}
use Rattle.chi_json.specs.Unknown.{is_known, unknown_in}

-- a test of what stands behind the elements of a list
pub any_over : {A B : Type 0} (f : B → Bool) (g : A → B) (xs : List A) → list_any f (map g xs) ≡ list_any (λ x. f (g x)) xs
any_over f g [] = refl
any_over f g (x ∷ xs) = ap (λ b. f (g x) || b) (any_over f g xs)

-- the first of some names that an object may not have
unfoldable pub unknown_among : {M : Type 0} → (M → List ℕ) → List (List M) → List (String Global) → Option ShownText
unknown_among name_of known [] = None
unknown_among name_of known (s ∷ names) = if is_known name_of known (string_bytes s) then unknown_among name_of known names else Some (shown_text (string_bytes s))

pub unknown_keys : {M : Type 0} (name_of : M → List ℕ) (known : List (List M)) (es : List (String Global × Value)) → unknown_in name_of known (members_view es) ≡ unknown_among name_of known (keys_of es)
unfolding unknown_in unknown_among
unknown_keys name_of known [] = refl
unknown_keys name_of known (e ∷ es) = ap (λ r. if is_known name_of known (string_bytes e.0) then r else Some (shown_text (string_bytes e.0))) (unknown_keys name_of known es)
