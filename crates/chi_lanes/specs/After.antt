-- what an access makes of a memory, and what it answers
use Rattle.std.specs.Prelude.{ℕ, ◌==◌, Bool, true, false, ◌&&◌, if◌then◌else◌, List, [], ◌∷◌}
use Rattle.chi_fields.specs.declared.kind.Kind.{Kind}
use Rattle.chi_fields.specs.declared.kind.Kind.TheVariants.{Read, Write, Store, Load, Swap, Compare}
use Rattle.chi_fields.specs.Access.{Access, lane_of}
use Rattle.chi_lanes.specs.declared.reply.Reply.{Reply}
use Rattle.chi_lanes.specs.declared.reply.Reply.TheVariants.{Comp, CompData}
use Rattle.chi_lanes.specs.Combination.{combine}
use Rattle.chi_lanes.specs.Memory.{Memory, bytes_from, with_bytes, with_enabled}
use Rattle.chi_lanes.specs.Packet.{in_lanes, sent, swap_value}

-- the old bytes of the operand
abbrev pub old : Access → Memory → List ℕ
old o m = bytes_from m o.addr o.len

-- both lists have the same bytes
unfoldable pub same_bytes : List ℕ → List ℕ → Bool
same_bytes [] [] = true
same_bytes (x ∷ xs) (y ∷ ys) = x == y && same_bytes xs ys
same_bytes _ _ = false

-- the swap value is written exactly where the old bytes are the compare value
abbrev pub after_compare : Access → Memory → Memory
after_compare o m =
    if same_bytes (old o m) (sent o.lanes (lane_of o.addr) o.len) then with_bytes m o.addr (swap_value o.lanes (lane_of o.addr) o.len) else m

abbrev pub after_as : Kind → Access → Memory → Memory
after_as Read o m = m
after_as Write o m = with_enabled o.lanes o.enables m o.addr o.len
after_as (Store op) o m = with_bytes m o.addr (combine op o.endian (old o m) (sent o.lanes (lane_of o.addr) o.len))
after_as (Load op) o m = with_bytes m o.addr (combine op o.endian (old o m) (sent o.lanes (lane_of o.addr) o.len))
after_as Swap o m = with_bytes m o.addr (sent o.lanes (lane_of o.addr) o.len)
after_as Compare o m = after_compare o m

-- the memory after an access
abbrev pub after : Access → Memory → Memory
after o m = after_as o.kind o m

abbrev pub answer_as : Kind → Access → Memory → Reply
answer_as Write o m = Comp
answer_as (Store op) o m = Comp
answer_as _ o m = CompData (in_lanes (lane_of o.addr) (old o m))

-- what the access answers, of the memory before it
abbrev pub answer : Access → Memory → Reply
answer o m = answer_as o.kind o m
