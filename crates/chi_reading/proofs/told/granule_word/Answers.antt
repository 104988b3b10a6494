-- the eight bytes spell the word
use Rattle.std.proofs.Common.{◌≡◌, IfSome, Some, ap, arith, subst, sym, ◌∙◌}
use Rattle.std.specs.Option.{option_map}
use Rattle.chi_lanes.specs.Bytes.{little}
use Rattle.chi_json.specs.Datum.{datum_data}
use Rattle.chi_json.specs.Values.{hex_bytes}
use Rattle.chi_json.proofs.WordLemmas.{AreDecoded, AreDecoded-hex_bytes, from_le_bytes-little}
use Rattle.chi_reading.proofs.told.granule_word.Goals as goal

pub returns : goal.returns
returns c =
    let read : hex_bytes 8 (datum_data c.args.value.now) ≡ Some c.in_ok-bytes.bytes = sym c.hex_bytes.ensures ∙ c.in_ok-bytes.was in
    let are : AreDecoded 8 c.in_ok-bytes.bytes = subst (λ bytes. IfSome bytes (AreDecoded 8)) read (AreDecoded-hex_bytes 8 (datum_data c.args.value.now)) in
    let word : c.from_le_bytes.result ≡ little c.in_ok-bytes.bytes = from_le_bytes-little c.in_ok-bytes.bytes c.from_le_bytes.result are.0 are.1 (omega arith) c.from_le_bytes.ensures in
    ap Some word ∙ sym (ap (option_map little) read)
