-- lemmas on the value of a text
use Rattle.std.proofs.Common.{◌≡◌, ℕ, List, Bool, true, false, if◌then◌else◌, None, Some, refl, ap, ◌∙◌}
use Rattle.std.specs.Str.{IsUtf8, is_utf8}
use Rattle.std.proofs.lemmas.Str.{is_utf8-from_IsUtf8, IsUtf8-from_is_utf8}
use Rattle.serde_json.specs.Data.{Data}
use Rattle.serde_json.specs.Read.{read}
use Rattle.chi_json.specs.Values.{json_value}

-- a text in UTF-8 has the value that is read from it
pub value_of_utf8 : (text : List ℕ) (d : Data) → IsUtf8 text → read text ≡ Some d → json_value text ≡ Some d
unfolding json_value
value_of_utf8 text d utf8 e =
    ap (λ b. if b then read text else None) (is_utf8-from_IsUtf8 text utf8) ∙ e

-- by cases on whether the text is in UTF-8
none_by : (text : List ℕ) (b : Bool) → is_utf8 text ≡ b → (IsUtf8 text → read text ≡ None) → (if b then read text else None) ≡ None
none_by text true e f = f (IsUtf8-from_is_utf8 text e)
none_by text false e f = refl

-- a text has no value if nothing is read from it in UTF-8
pub value_of_none : (text : List ℕ) → (IsUtf8 text → read text ≡ None) → json_value text ≡ None
unfolding json_value
value_of_none text f = none_by text (is_utf8 text) refl f
