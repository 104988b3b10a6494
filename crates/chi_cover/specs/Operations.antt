-- the bins of one operation, by itself
use Rattle.std.specs.Prelude.{ℕ, ◌+◌, ◌*◌, ◌^◌, ◌==◌, nat_le, nat_lt, not, ◌&&◌, Bool, true, false, if◌then◌else◌, List, [], ◌∷◌, ◌++◌, Option, None, Some, count_by}
use Rattle.std.specs.Int.{bit_at}
use Rattle.std.specs.List.{range_with_len}
use Rattle.chi_fields.specs.Access.{Access, lane_of, window_first}
use Rattle.chi_fields.specs.declared.kind.Kind.{Kind}
use Rattle.chi_fields.specs.declared.kind.Kind.TheVariants.{Write, Load, Compare}
use Rattle.chi_fields.specs.declared.kind.Op.{Op}
use Rattle.chi_fields.specs.declared.kind.Op.TheVariants.{Add}
use Rattle.chi_lanes.specs.After.{same_bytes}
use Rattle.chi_lanes.specs.Bytes.{number_in}
use Rattle.chi_lanes.specs.Combination.{combine}
use Rattle.chi_lanes.specs.Packet.{sent}
use Rattle.chi_lanes.specs.declared.reply.Reply.{Reply}
use Rattle.chi_lanes.specs.declared.reply.Reply.TheVariants.{CompData}
use Rattle.chi_trace.specs.declared.operation.Operation.{Operation}
use Rattle.chi_cover.specs.declared.bin.Bin.{Bin}
use Rattle.chi_cover.specs.declared.bin.Bin.TheVariants.{Operand, Comparison, Enables, Kept, ChangedSign, Wrapped}
use Rattle.chi_cover.specs.declared.bin.Enabled.{Enabled}
use Rattle.chi_cover.specs.declared.bin.Enabled.TheVariants.{NoLane, SomeLanes, AllLanes}
use Rattle.chi_cover.specs.declared.operand.Values.{Values}

-- each operation is of its kind, its byte order, its length and its lane
abbrev pub operation_bin : Operation → Bin
operation_bin op = Operand op.access.kind op.access.endian op.access.len (lane_of op.access.addr)

-- the operand's bytes in a data packet
abbrev pub operand_in : Access → List ℕ → List ℕ
operand_in a lanes = sent lanes (lane_of a.addr) a.len

-- the compare value stands in the upper half of the window
abbrev pub is_upper : Access → Bool
is_upper a = not (lane_of a.addr == window_first Compare a.len (lane_of a.addr))

-- an AtomicCompare that returned data has matched where the bytes that were returned are the compare value
abbrev pub comparison_of : Kind → Access → Option Reply → Option Bin
comparison_of Compare a (Some (CompData returned)) = Some (Comparison a.len (is_upper a) (same_bytes (operand_in a returned) (operand_in a a.lanes)))
comparison_of _ a reply = None

unfoldable pub comparison_bin : Operation → Option Bin
comparison_bin op = comparison_of op.access.kind op.access op.reply

-- how many lanes of the operand are enabled, and whether that is none, some or all
abbrev pub enabled_lanes : Access → ℕ
enabled_lanes a = count_by (λ lane. bit_at a.enables lane == 1) (range_with_len (lane_of a.addr) a.len)

abbrev pub enabled_as : ℕ → ℕ → Enabled
enabled_as count len = if count == 0 then NoLane else if count == len then AllLanes else SomeLanes

-- a write is of its length and its byte enables
abbrev pub enables_as : Kind → Access → Option Bin
enables_as Write a = Some (Enables a.len (enabled_as (enabled_lanes a) a.len))
enables_as _ a = None

unfoldable pub enables_bin : Operation → Option Bin
enables_bin op = enables_as op.access.kind op.access

-- The values of an AtomicLoad that returned data, in its byte order: the old one is what was returned, and the new one is what
-- the operation makes of the old bytes and the sent ones.
abbrev pub values_as : Op → Access → List ℕ → Values
values_as op a returned = record {
  op = op;
  len = a.len;
  old = number_in a.endian (operand_in a returned);
  sent = number_in a.endian (operand_in a a.lanes);
  new = number_in a.endian (combine op a.endian (operand_in a returned) (operand_in a a.lanes));
}

abbrev pub values_by : Kind → Access → Option Reply → Option Values
values_by (Load op) a (Some (CompData returned)) = Some (values_as op a returned)
values_by _ a reply = None

unfoldable pub values_of : Operation → Option Values
values_of op = values_by op.access.kind op.access op.reply

-- a number of so many bytes is negative in two's complement
abbrev pub is_negative : ℕ → ℕ → Bool
is_negative len n = not (nat_lt (2 * n) (256 ^ len))

-- exactly one of the old value and the new one is negative
abbrev pub changes_sign : Values → Bool
changes_sign v = if is_negative v.len v.old then not (is_negative v.len v.new) else is_negative v.len v.new

abbrev pub is_add : Op → Bool
is_add Add = true
is_add _ = false

-- a sum of the old value and the sent one that has more bytes than the operand
abbrev pub wraps : Values → Bool
wraps v = is_add v.op && nat_le (256 ^ v.len) (v.old + v.sent)

-- the bins of the results of these values
abbrev pub kept_bin : Values → Option Bin
kept_bin v = if v.new == v.old then Some (Kept v.op v.len) else None

abbrev pub sign_bin : Values → Option Bin
sign_bin v = if changes_sign v then Some (ChangedSign v.op v.len) else None

abbrev pub wrapped_bin : Values → Option Bin
wrapped_bin v = if wraps v then Some (Wrapped v.len) else None

-- at most one
abbrev pub those : Option Bin → List Bin
those None = []
those (Some bin) = bin ∷ []

abbrev pub results_of : Option Values → List Bin
results_of None = []
results_of (Some v) = those (kept_bin v) ++ (those (sign_bin v) ++ those (wrapped_bin v))

-- the bins of an operation by itself
unfoldable pub own_bins : Operation → List Bin
own_bins op = operation_bin op ∷ (those (comparison_bin op) ++ (those (enables_bin op) ++ results_of (values_of op)))
