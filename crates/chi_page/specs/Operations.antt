-- the operations of a trace as JSON: numbers, hex digits and the names of opcodes, and no text of the trace's own
use Rattle.std.specs.Prelude.{ℕ, ◌-◌, ◌^◌, ◌==◌, Bool, true, false, if◌then◌else◌, List, ◌++◌, codes, decimal, length, Option, None, Some}
use Rattle.hex.specs.Hex.{encode_lower}
use Rattle.chi_fields.specs.Access.{Access}
use Rattle.chi_fields.specs.Opcode.{opcode_name}
use Rattle.chi_lanes.specs.declared.reply.Reply.{Reply}
use Rattle.chi_lanes.specs.declared.reply.Reply.TheVariants.{Comp, CompData}
use Rattle.chi_text.specs.Part.{address_text}
use Rattle.chi_trace.specs.Explains.{at}
use Rattle.chi_trace.specs.Fields.{request_in}
use Rattle.chi_trace.specs.declared.operation.Operation.{Operation}
use Rattle.chi_reading.specs.TraceText.{RecordedValue}
use Rattle.chi_page.specs.Listed.{comma_line, listed}

-- the order of the bytes, as a trace states it
unfoldable pub endian_json : Bool → List ℕ
endian_json true = codes "1"
endian_json false = codes "0"

-- whose the request is, its opcode with its name, its size and its address in hex
unfoldable pub header_json : Operation → List ℕ
header_json op =
    let q = request_in op in
    decimal q.src ++ (codes "," ++ (decimal q.txn ++ (codes "," ++ (decimal q.opcode ++ (codes ",\"" ++ (opcode_name q.opcode ++ (codes "\"," ++ (decimal q.size
    ++ (codes ",\"" ++ (address_text q.addr ++ codes "\""))))))))))

-- its byte enables and its data packet
unfoldable pub packet_json : Access → List ℕ
packet_json a = codes "," ++ (decimal a.enables ++ (codes ",\"" ++ (encode_lower a.lanes ++ codes "\"")))

-- all of it
unfoldable pub request_json : Operation → List ℕ
request_json op = header_json op ++ (codes "," ++ (endian_json op.access.endian ++ packet_json op.access))

-- an end, or null where there was none
unfoldable pub end_json : ℕ → List ℕ
end_json end = if end == 2 ^ 64 - 1 then codes "null" else codes "\"" ++ (decimal end ++ codes "\"")

-- a reply, or null where none was seen
unfoldable pub reply_json : Option Reply → List ℕ
reply_json None = codes "null"
reply_json (Some Comp) = codes "\"comp\""
reply_json (Some (CompData lanes)) = codes "\"" ++ (encode_lower lanes ++ codes "\"")

-- how many bytes the operand has, when the operation was under way, and what came back; a time may be too great for a number of JSON
unfoldable pub observed_json : Operation → List ℕ
observed_json op =
    codes "," ++ (decimal op.access.len ++ (codes ",\"" ++ (decimal op.start ++ (codes "\"," ++ (end_json op.end ++ (codes "," ++ reply_json op.reply))))))

-- An operation is an array: the number of its request in the text, requester, transaction, opcode, its name, size, address, byte
-- order, byte enables, lanes, length of the operand, start, end and reply.
unfoldable pub operation_json : Operation → List ℕ
operation_json op = codes "[" ++ (decimal op.number ++ (codes "," ++ (request_json op ++ (observed_json op ++ codes "]"))))

-- the one at a place of the trace
abbrev pub operation_at : RecordedValue → ℕ → List ℕ
operation_at r i = operation_json (at r.trace.operations i)

-- all of them, in the order of their starts
unfoldable pub operations_json : RecordedValue → List ℕ
operations_json r = listed comma_line (operation_at r) (length r.trace.operations)
