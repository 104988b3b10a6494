-- the text of a value is read as the value
use Rattle.std.proofs.Common.{rules, ap, sym, ◌∙◌, ◌≡◌, Some, true, subst, string_bytes, ◌≤◌}
use Rattle.std.specs.Str.{is_utf8}
use Rattle.std.proofs.lemmas.Str.{is_utf8-from_IsUtf8}
use Rattle.serde_json.specs.Data.{depth}
use Rattle.chi_stimulus.proofs.Reading.{script_depth, script_reads}
use Rattle.chi_stimulus.proofs.text.script_text.Goals as goal

pub returns : goal.returns
returns c =
    let v = c.in_ok-value.ensures in
    let utf8 : is_utf8 (string_bytes c.in_ok-text.text) ≡ true = search (rules, is_utf8-from_IsUtf8, c.as_bytes-bytes.ensures.utf8) in
    let deep = script_depth c.args.region.now _ c.args.requests.now in
    script_reads c.args.region.now c.args.image c.args.requests.now _ utf8 (c.in_ok-text.ensures.reads_back (subst (λ d. depth d ≤ 127) (sym v.value) deep) ∙ ap Some v.value)
    c.region_is_lawful.ensures c.requires.image v.image v.writable c.requires.few
