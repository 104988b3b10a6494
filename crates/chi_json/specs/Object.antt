-- objects of JSON, by the members that are put into them one after another
use Rattle.std.specs.Prelude.{◌≡◌, ℕ, Bool, if◌then◌else◌, List, flat_map, Ok, codes}
use Rattle.hex.specs.Hex.{decode_sized, encode_lower}
use Rattle.serde_json.specs.Data.{number, unsigned, string, array, Items, Members, put}
use Rattle.chi_fields.specs.declared.request.Request.{Request}
use Rattle.chi_lanes.specs.Bytes.{little_bytes}

-- the members, and a number under this name
unfoldable pub with_number : List ℕ → ℕ → Members → Members
with_number name n members = put name (number (unsigned n)) members

-- the members, and a text under this name
unfoldable pub with_text : List ℕ → List ℕ → Members → Members
with_text name text members = put name (string text) members

-- the members, and a text of two hex digits for each byte under this name
unfoldable pub with_bytes : List ℕ → List ℕ → Members → Members
with_bytes name bytes members = put name (string (encode_lower bytes)) members

-- the members, and an array under this name
unfoldable pub with_array : List ℕ → Items → Members → Members
with_array name items members = put name (array items) members

-- the number of a byte order
abbrev pub byte_order : Bool → ℕ
byte_order endian = if endian then 1 else 0

-- the members, and those of a request
unfoldable pub with_request : Request → Members → Members
with_request q members =
    with_bytes (codes "lanes") q.lanes (with_number (codes "be") q.be (with_number (codes "endian") (byte_order q.endian)
    (with_number (codes "addr") q.addr (with_number (codes "size") q.size (with_number (codes "op") q.opcode
    (with_number (codes "txn") q.txn (with_number (codes "src") q.src members)))))))

-- bytes that are read as they were written
abbrev pub IsReadBack : ℕ → List ℕ → Type 0
IsReadBack count bytes = decode_sized (encode_lower bytes) count ≡ Ok bytes

-- the bytes of granules, by their words: byte k of a word is its bits 8k to 8k + 7
abbrev pub word_bytes : List ℕ → List ℕ
word_bytes words = flat_map (little_bytes 8) words
