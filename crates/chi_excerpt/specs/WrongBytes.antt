-- the bytes of an answer that no legal answer has
use Rattle.std.specs.Prelude.{ℕ, ◌%◌, ◌==◌, nat_lt, not, Bool, false, ◌&&◌, List, [], ◌∷◌, ◌++◌, codes, decimal, filter, flat_map, length, map, slice_index, Option, None, Some}
use Rattle.std.specs.List.{list_all, range_with_len}
use Rattle.chi_fields.specs.Access.{Access, lane_of}
use Rattle.chi_lanes.specs.declared.reply.Reply.{Reply}
use Rattle.chi_lanes.specs.declared.reply.Reply.TheVariants.{Comp, CompData}
use Rattle.chi_trace.specs.declared.operation.Operation.{Operation}
use Rattle.chi_excerpt.specs.declared.wrong_bytes.ReturnedByte.{ReturnedByte}
use Rattle.chi_excerpt.specs.Operands.{byte_text}

-- the byte of a data packet at an address
abbrev pub byte_in : List ℕ → ℕ → ReturnedByte
byte_in lanes addr = record { addr = addr; value = slice_index lanes (lane_of addr) }

-- the bytes of an access's operand in a data packet
abbrev pub bytes_in : Access → List ℕ → List ReturnedByte
bytes_in a lanes = map (byte_in lanes) (range_with_len a.addr a.len)

-- an answer has data, and another byte at the address of this one
abbrev pub has_other : ReturnedByte → Reply → Bool
has_other byte Comp = false
has_other byte (CompData lanes) = not (slice_index lanes (lane_of byte.addr) == byte.value)

-- some answers are legal, and each has another byte at the address of this one
abbrev pub is_wrong : List Reply → ReturnedByte → Bool
is_wrong legal byte = nat_lt 0 (length legal) && list_all (has_other byte) legal

-- the bytes of a data packet that are wrong
abbrev pub wrong_in : Access → List Reply → List ℕ → List ReturnedByte
wrong_in a legal lanes = filter (is_wrong legal) (bytes_in a lanes)

-- the bytes of an answer that are wrong; one that was not seen, or that has no data, has none
abbrev pub wrong_of : Access → List Reply → Option Reply → List ReturnedByte
wrong_of a legal None = []
wrong_of a legal (Some Comp) = []
wrong_of a legal (Some (CompData lanes)) = wrong_in a legal lanes

abbrev pub wrong_bytes : Operation → List Reply → List ReturnedByte
wrong_bytes op legal = wrong_of op.access legal op.reply

-- the place of an address in its granule, as in the rows
abbrev pub place_text : ℕ → List ℕ
place_text addr = codes "+" ++ decimal (addr % 8)

-- a byte by its place
abbrev pub wrong_byte_text : ReturnedByte → List ℕ
wrong_byte_text byte = place_text byte.addr ++ (codes " is " ++ byte_text byte.value)

-- one after another
abbrev pub further_byte_text : ReturnedByte → List ℕ
further_byte_text byte = codes ", " ++ wrong_byte_text byte

-- the line of the bytes that are wrong, where there are some
unfoldable pub wrong_line : List ReturnedByte → List ℕ
wrong_line [] = []
wrong_line (first ∷ others) = codes "    unlike each of these: " ++ (wrong_byte_text first ++ (flat_map further_byte_text others ++ codes "\n"))
