-- why a home refused a request, as a trace tells it
use Rattle.std.specs.Prelude.{ℕ, Bool, false, List, find, Option, option_and_then, Result, Ok, Err}
use Rattle.std.specs.Str.{bytes_eq}
use Rattle.serde_json.specs.Data.{Data}
use Rattle.serde_json.specs.Find.{as_str}
use Rattle.chi_fields.specs.Access.{Access}
use Rattle.chi_fields.specs.Refusal.{name_of}
use Rattle.chi_fields.specs.Refusals.{all_refusals}
use Rattle.chi_fields.specs.declared.refusal.Refusal.{Refusal}

-- the first of some reasons that has this name
abbrev pub refusal_with : List ℕ → List Refusal → Option Refusal
refusal_with name refusals = find (λ refusal. bytes_eq (name_of refusal) name) refusals

-- the reason that a text names
abbrev pub refusal_of : Data → Option Refusal
refusal_of d = option_and_then (λ name. refusal_with name all_refusals) (as_str d)

-- a home that decides so refuses the request for this reason; each reason has a name of its own
abbrev pub is_refused_so : Refusal → Result Access Refusal → Bool
is_refused_so reason (Ok access) = false
is_refused_so reason (Err refusal) = bytes_eq (name_of refusal) (name_of reason)
