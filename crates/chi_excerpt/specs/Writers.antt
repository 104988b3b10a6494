-- which operations of an order wrote some bytes last
use Rattle.std.specs.Prelude.{ℕ, ◌==◌, nat_lt, not, Bool, false, true, ◌&&◌, if◌then◌else◌, List, [], ◌∷◌, ◌++◌, bytes_eq, codes, decimal, filter, flat_map, length, Option, None, Some}
use Rattle.std.specs.Int.{bit_at}
use Rattle.std.specs.List.{list_any}
use Rattle.chi_fields.specs.Access.{Access, is_among, lane_of}
use Rattle.chi_fields.specs.declared.kind.Kind.{Kind}
use Rattle.chi_fields.specs.declared.kind.Kind.TheVariants.{Read, Write, Store, Load, Swap, Compare}
use Rattle.chi_lanes.specs.Packet.{sent}
use Rattle.chi_lanes.specs.declared.reply.Reply.{Reply}
use Rattle.chi_lanes.specs.declared.reply.Reply.TheVariants.{Comp, CompData}
use Rattle.chi_judge.specs.declared.reach.Stop.{Stop}
use Rattle.chi_trace.specs.declared.operation.Operation.{Operation}
use Rattle.chi_excerpt.specs.declared.wrong_bytes.ReturnedByte.{ReturnedByte}
use Rattle.chi_excerpt.specs.Operands.{sent_bytes}
use Rattle.chi_excerpt.specs.WrongBytes.{place_text, wrong_bytes}

-- The answer of an AtomicCompare has the old bytes. It shows that they were not the compare value, so that nothing was written.
abbrev pub shows_no_match : Access → Option Reply → Bool
shows_no_match a None = false
shows_no_match a (Some Comp) = false
shows_no_match a (Some (CompData lanes)) = not (bytes_eq (sent lanes (lane_of a.addr) a.len) (sent_bytes a))

-- an operation of a kind writes the byte of its operand at an address
abbrev pub writes_as : Kind → Operation → ℕ → Bool
writes_as Read op addr = false
writes_as Write op addr = bit_at op.access.enables (lane_of addr) == 1
writes_as (Store how) op addr = true
writes_as (Load how) op addr = true
writes_as Swap op addr = true
writes_as Compare op addr = not (shows_no_match op.access op.reply)

-- an operation writes the byte at an address: it is one of its operand, and its kind writes it
abbrev pub writes : ℕ → Operation → Bool
writes addr op = is_among op.access.addr op.access.len addr && writes_as op.access.kind op addr

-- an operation writes this byte, and none of those after it does
abbrev pub wrote_last : Operation → List Operation → ReturnedByte → Bool
wrote_last op later byte = writes byte.addr op && not (list_any (writes byte.addr) later)

-- the bytes that it wrote last
abbrev pub last_written : List ReturnedByte → Operation → List Operation → List ReturnedByte
last_written bytes op later = filter (wrote_last op later) bytes

-- a byte by its place alone
abbrev pub written_text : ReturnedByte → List ℕ
written_text byte = codes " " ++ place_text byte.addr

-- the line of the bytes that the operation of this number wrote last, where there are some
unfoldable pub writer_line : List ℕ → ℕ → List ReturnedByte → List ℕ
writer_line label number bytes =
    if nat_lt 0 (length bytes)
    then codes "    last written by " ++ (label ++ (codes " " ++ (decimal number ++ (codes ":" ++ (flat_map written_text bytes ++ codes "\n")))))
    else []

-- the lines of the operations of an order that wrote some of the bytes last
unfoldable pub writer_lines : List ℕ → List ReturnedByte → List Operation → List ℕ
writer_lines label bytes [] = []
writer_lines label bytes (op ∷ later) = writer_line label op.number (last_written bytes op later) ++ writer_lines label bytes later

-- an operation is not the one of this number
abbrev pub is_other : ℕ → Operation → Bool
is_other number op = not (op.number == number)

-- which operations of an order, but the one that is blamed, wrote the bytes last that no legal answer has
unfoldable pub writers_text : List ℕ → Stop → List Operation → List ℕ
writers_text label s order = writer_lines label (wrong_bytes s.op s.legal.items) (filter (is_other s.op.number) order)
