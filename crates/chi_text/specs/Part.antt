-- the parts of a text
use Rattle.std.specs.Prelude.{ℕ, List, [], ◌∷◌, decimal}
use Rattle.std.specs.Int.{w64, to_be_bytes, to_le_bytes}
use Rattle.hex.specs.Hex.{encode_lower}
use Rattle.chi_text.specs.declared.part.Part.{Part}
use Rattle.chi_text.specs.declared.part.Part.TheVariants.{Text, Number, Address, Word, Opcode, Packet}

-- an address as sixteen hex digits, the most significant first
abbrev pub address_text : ℕ → List ℕ
address_text addr = encode_lower (to_be_bytes w64 addr)

-- a granule's word as its eight bytes in address order, two hex digits each
abbrev pub word_text : ℕ → List ℕ
word_text word = encode_lower (to_le_bytes w64 word)

-- a part as it stands in the text
abbrev pub part_text : Part → List ℕ
part_text (Text text) = text.now
part_text (Number n) = decimal n
part_text (Address addr) = address_text addr
part_text (Word word) = word_text word
part_text (Opcode opcode) = encode_lower (opcode ∷ [])
part_text (Packet lanes) = encode_lower lanes
