-- the value of a text, and what a value states
use Rattle.std.specs.Prelude.{ℕ, ◌*◌, ◌/◌, nat_le, if◌then◌else◌, List, length, map, Option, None, Some, option_and_then}
use Rattle.std.specs.Option.{option_map}
use Rattle.std.specs.Result.{result_ok}
use Rattle.std.specs.Simd.{first_chunks}
use Rattle.std.specs.Str.{is_utf8}
use Rattle.hex.specs.Hex.{decode_sized}
use Rattle.serde_json.specs.Data.{Data}
use Rattle.serde_json.specs.Find.{as_number, as_u64, as_str}
use Rattle.serde_json.specs.Read.{read}
use Rattle.chi_lanes.specs.Bytes.{little}

-- the value of a text, where it is JSON in UTF-8
unfoldable pub json_value : List ℕ → Option Data
json_value text = if is_utf8 text then read text else None

abbrev pub up_to : ℕ → ℕ → Option ℕ
up_to top n = if nat_le n top then Some n else None

-- a whole number from 0 to a greatest one
abbrev pub whole_number : ℕ → Data → Option ℕ
whole_number top d = option_and_then (up_to top) (option_and_then as_u64 (as_number d))

-- so many bytes, of a text of two hex digits for each
abbrev pub hex_bytes : ℕ → Data → Option (List ℕ)
hex_bytes count d = option_and_then (λ s. result_ok (decode_sized s count)) (as_str d)

-- the words of some bytes, eight to a word, and of these the least significant first
abbrev pub words_of : List ℕ → List ℕ
words_of bytes = map little (first_chunks 8 (length bytes / 8) bytes)

-- the words of so many granules: of a text of sixteen hex digits for each, which are its bytes in address order
abbrev pub image_of : ℕ → Data → Option (List ℕ)
image_of granules d = option_map words_of (hex_bytes (8 * granules) d)
