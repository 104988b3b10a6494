-- the text is an object with this outline, and nothing more
use Rattle.std.proofs.Common.{◌≡◌, ℕ, ◌<◌, ◌∷◌, [], List, Some, arith, sym, subst, ◌∙◌}
use Rattle.json.specs.Json.{value}
use Rattle.json.specs.Lex.{tokens}
use Rattle.json.specs.Token.{Token, begin_object}
use Rattle.serde_json.specs.Data.{object}
use Rattle.serde_json.specs.Read.{converted, of_json, read}
use Rattle.chi_json.proofs.FlatReading.{object_read, text_read}
use Rattle.chi_json.proofs.ValueLemmas.{value_of_utf8}
use Rattle.chi_reading.proofs.usual_trace.outline_of.Goals as goal

pub returns : goal.returns
returns c =
    let text = c.in-Ok.text.now in
    let rest = c.begins_object.new.reader in
    let outlined = c.in_ok-outline.ensures in
    let all = outlined.0 in
    let some : 0 < 127 = omega arith in
    let begun : tokens text ≡ begin_object ∷ rest = sym c.in-Ok-new.ensures.ok ∙ c.begins_object.ensures c.if-not-begins_object.false in
    let over : c.read_members.new.reader ≡ [] = grind arith in
    let whole : converted of_json (value 127 (tokens text)) ≡ Some (object all, []) =
    subst (λ (left : List Token). converted of_json (value 127 (tokens text)) ≡ Some (object all, left)) over (object_read 127 (tokens text) rest c.read_members.new.reader all some begun outlined.1) in
    (all, value_of_utf8 c.args.text.now (object all) c.in-Ok.ensures.cases.1 (subst (λ (text : List ℕ). read text ≡ Some (object all)) c.in-Ok.ensures.cases.0 (text_read text (object all) whole)), outlined.2)
