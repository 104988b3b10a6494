-- the request that an operation is
use Rattle.std.specs.Prelude.{◌≡◌, ℕ, ◌+◌, ◌==◌, if◌then◌else◌, IfOk}
use Rattle.chi_fields.specs.Extent.{Extent}
use Rattle.chi_fields.specs.Opcode.{op_number}
use Rattle.chi_fields.specs.Refusal.{decision}
use Rattle.chi_fields.specs.declared.kind.Kind.{Kind}
use Rattle.chi_fields.specs.declared.kind.Kind.TheVariants.{Read, Write, Store, Load, Swap, Compare}
use Rattle.chi_fields.specs.declared.request.Request.{Request}
use Rattle.chi_trace.specs.declared.operation.Operation.{Operation}

-- the opcode of a kind
abbrev pub opcode_of : Kind → ℕ
opcode_of Read = 0x04
opcode_of Write = 0x1c
opcode_of (Store op) = 0x28 + op_number op
opcode_of (Load op) = 0x30 + op_number op
opcode_of Swap = 0x38
opcode_of Compare = 0x39

-- the size that stands for so many bytes, which are 1, 2, 4 or 8
abbrev pub size_of_length : ℕ → ℕ
size_of_length len = if len == 1 then 0 else if len == 2 then 1 else if len == 4 then 2 else 3

-- the size of an operand: that of an AtomicCompare counts both values
abbrev pub size_of : Kind → ℕ → ℕ
size_of Compare len = size_of_length len + 1
size_of _ len = size_of_length len

-- the request that an operation is
abbrev pub request_in : Operation → Request
request_in op = record {
  src = op.src;
  txn = op.txn;
  opcode = opcode_of op.access.kind;
  size = size_of op.access.kind op.access.len;
  addr = op.access.addr;
  endian = op.access.endian;
  be = op.access.enables;
  lanes = op.access.lanes;
}

-- Where a home accepts a request, the access tells the opcode and the size that the request has.
abbrev pub FieldsAreTold : Type 0
FieldsAreTold = (q : Request) (region : Extent) → IfOk (decision q region) (λ access. (opcode_of access.kind ≡ q.opcode) × (size_of access.kind access.len ≡ q.size))
