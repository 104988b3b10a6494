-- the text of a value is read as the value
use Rattle.std.proofs.Common.{rules, ◌≡◌, true, string_bytes}
use Rattle.std.specs.Str.{is_utf8}
use Rattle.std.proofs.lemmas.Str.{is_utf8-from_IsUtf8}
use Rattle.serde_json.specs.View.{view}
use Rattle.chi_engine.proofs.JsonLemmas.{reads_back}
use Rattle.chi_engine.proofs.json_written.text_of.Goals as goal

pub returns : goal.returns
returns c =
    let utf8 : is_utf8 (string_bytes c.in_ok-text.text) ≡ true = search (rules, is_utf8-from_IsUtf8, c.as_bytes-bytes.ensures.utf8) in
    reads_back (view c.args.value.now) (string_bytes c.in_ok-text.text) utf8 c.requires c.in_ok-text.ensures.reads_back
