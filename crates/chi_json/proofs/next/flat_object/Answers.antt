-- the text is such an object, and nothing more
use Rattle.std.proofs.Common.{◌≡◌, [], List, Some, subst, ap, sym, ℕ, ◌∙◌, ◌<◌, arith}
use Rattle.json.specs.Json.{value}
use Rattle.json.specs.Lex.{tokens}
use Rattle.json.specs.Token.{Token}
use Rattle.serde_json.specs.Read.{converted, of_json, read}
use Rattle.chi_json.specs.Flat.{flat_data}
use Rattle.chi_json.proofs.FlatReading.{text_read}
use Rattle.chi_json.proofs.ValueLemmas.{value_of_utf8}
use Rattle.chi_json.proofs.next.flat_object.Goals as goal

pub returns-then-is_none : goal.returns-then-is_none
returns-then-is_none c =
    let object = c.read_object.new.object in
    let text = c.in-Ok.text.now in
    let some : 0 < 127 = omega arith in
    let told = c.read_object.ensures.value c.if-read_object.true c.none-object.ensures 127 some in
    let ended : c.read_object.new.reader ≡ [] = grind arith in
    let whole : converted of_json (value 127 (tokens text)) ≡ Some (flat_data object, []) =
    ap (λ (ts : List Token). converted of_json (value 127 ts)) (sym c.in-Ok-new.ensures.ok)
    ∙ subst (λ (left : List Token). converted of_json (value 127 c.in-Ok-new.reader) ≡ Some (flat_data object, left)) ended told in
    value_of_utf8 c.args.text.now (flat_data object) c.in-Ok.ensures.cases.1 (subst (λ (text : List ℕ). read text ≡ Some (flat_data object)) c.in-Ok.ensures.cases.0 (text_read text (flat_data object) whole))
