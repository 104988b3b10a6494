-- the object that some members make
use Rattle.std.specs.Prelude.{ℕ, List, [], ◌∷◌}
use Rattle.std.specs.Borrow.{Bor}
use Rattle.serde_json.specs.Data.{Data, Members, no_members, object, put}
use Rattle.chi_json.specs.Datum.{datum_data}
use Rattle.chi_json.specs.declared.datum.Datum.{Datum}
use Rattle.chi_json.specs.declared.flat.FlatObject.{FlatObject}

-- members that are put to others one after another, so the last of a name counts
abbrev pub put_all : List (Bor (List ℕ) × Datum) → Members → Members
put_all [] found = found
put_all (m ∷ ms) found = put_all ms (put m.0.now (datum_data m.1) found)

abbrev pub flat_members : FlatObject → Members
flat_members flat = put_all flat.members.items no_members

abbrev pub flat_data : FlatObject → Data
flat_data flat = object (flat_members flat)
