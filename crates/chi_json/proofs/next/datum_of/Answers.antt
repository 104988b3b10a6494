-- the value of each token
use Rattle.std.proofs.Common.{◌∷◌, ap}
use Rattle.json.specs.Reads.{token_of}
use Rattle.serde_json.specs.Data.{unsigned}
use Rattle.chi_json.proofs.FlatReading.{boolean_read, null_read, number_read, string_read}
use Rattle.chi_json.proofs.next.datum_of.Goals as goal

pub returns-in-Null : goal.returns-in-Null
returns-in-Null c depth rest = null_read depth _ rest (ap (λ k. token_of k ∷ rest) c.in-Null.is)

pub returns-in-Bool : goal.returns-in-Bool
returns-in-Bool c depth rest = boolean_read depth _ rest c.in-Bool.is' (ap (λ k. token_of k ∷ rest) c.in-Bool.is)

pub returns-in-Some : goal.returns-in-Some
returns-in-Some c depth rest = number_read depth _ rest c.in-Number.text.now (unsigned c.in-Some.number) (ap (λ k. token_of k ∷ rest) c.in-Number.is) c.in-Some.ensures

pub returns-in-String : goal.returns-in-String
returns-in-String c depth rest = string_read depth _ rest c.in-String.text.now (ap (λ k. token_of k ∷ rest) c.in-String.is)
