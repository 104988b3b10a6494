-- the value of a member of an object, as JSON's
use Rattle.serde_json.specs.Data.{Data, null, boolean, number, string, unsigned}
use Rattle.serde_json.specs.View.{view}
use Rattle.chi_json.specs.declared.datum.Datum.{Datum}
use Rattle.chi_json.specs.declared.datum.Datum.TheVariants as datum

abbrev pub datum_data : Datum → Data
datum_data datum.Null = null
datum_data (datum.Bool b) = boolean b
datum_data (datum.Whole n) = number (unsigned n)
datum_data (datum.Text s) = string s.now
datum_data (datum.Value v) = view v.now
