-- operations as JSON objects, with the names that a trace has for their members
use Rattle.std.specs.Prelude.{ℕ, List, ◌++◌, codes, decimal, length, slice_get}
use Rattle.hex.specs.Hex.{encode_lower}
use Rattle.chi_fields.specs.Access.{Access}
use Rattle.chi_fields.specs.Opcode.{opcode_name}
use Rattle.chi_lanes.specs.declared.reply.Reply.{Reply}
use Rattle.chi_text.specs.Part.{address_text}
use Rattle.chi_trace.specs.Explains.{at}
use Rattle.chi_trace.specs.Fields.{request_in}
use Rattle.chi_trace.specs.declared.operation.Operation.{Operation}
use Rattle.chi_trace.specs.declared.request_fields.RequestFields.{RequestFields}
use Rattle.chi_page.specs.Listed.{comma, listed}
use Rattle.chi_page.specs.Operations.{end_json, endian_json, reply_json}

-- the request of an operation
abbrev pub fields_in : Operation → RequestFields
fields_in op =
    let q = request_in op in
    record { number = op.number; src = q.src; txn = q.txn; opcode = q.opcode; size = q.size; addr = q.addr; endian = q.endian; be = q.be; lanes = q.lanes }

-- the number of a request in the text, whose it is, its opcode with its name, its size and its address in hex
unfoldable pub request_members : RequestFields → List ℕ
request_members q =
    codes "\"request\":" ++ (decimal q.number ++ (codes ",\"src\":" ++ (decimal q.src ++ (codes ",\"txn\":" ++ (decimal q.txn ++ (codes ",\"op\":" ++ (decimal q.opcode
    ++ (codes ",\"name\":\"" ++ (opcode_name q.opcode ++ (codes "\",\"size\":" ++ (decimal q.size ++ (codes ",\"addr\":\"" ++ (address_text q.addr ++ codes "\"")))))))))))))

-- its byte order, its byte enables and its data packet
unfoldable pub packet_members : Access → List ℕ
packet_members a =
    codes ",\"endian\":" ++ (endian_json a.endian ++ (codes ",\"be\":" ++ (decimal a.enables ++ (codes ",\"lanes\":\"" ++ (encode_lower a.lanes ++ codes "\"")))))

-- when it was under way, and what came back; a time may be too great for a number of JSON
unfoldable pub observed_members : Operation → List ℕ
observed_members op = codes ",\"start\":\"" ++ (decimal op.start ++ (codes "\",\"end\":" ++ (end_json op.end ++ (codes ",\"reply\":" ++ reply_json op.reply))))

-- all of it
unfoldable pub object_json : Operation → List ℕ
object_json op = codes "{" ++ (request_members (fields_in op) ++ (packet_members op.access ++ (observed_members op ++ codes "}")))

-- operations one after the other, and a list of them
unfoldable pub each_object_json : List Operation → List ℕ
each_object_json ops = listed comma (λ n. object_json (at ops n)) (length ops)

unfoldable pub objects_json : List Operation → List ℕ
objects_json ops = codes "[" ++ (each_object_json ops ++ codes "]")

-- replies one after the other, and a list of them
unfoldable pub each_reply_json : List Reply → List ℕ
each_reply_json replies = listed comma (λ n. reply_json (slice_get replies n)) (length replies)

unfoldable pub replies_json : List Reply → List ℕ
replies_json replies = codes "[" ++ (each_reply_json replies ++ codes "]")
