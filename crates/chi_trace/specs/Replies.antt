-- the replies that an access can have, whatever the memory holds
use Rattle.std.specs.Prelude.{◌≡◌, ℕ, ◌+◌, ◌==◌, Bool, true, false, not, ◌&&◌, if◌then◌else◌, List, take, drop, Option, Some, None}
use Rattle.std.specs.List.{list_all}
use Rattle.chi_fields.specs.Access.{Access, lane_of}
use Rattle.chi_fields.specs.declared.kind.Kind.{Kind}
use Rattle.chi_fields.specs.declared.kind.Kind.TheVariants.{Write, Store}
use Rattle.chi_lanes.specs.After.{answer}
use Rattle.chi_lanes.specs.Memory.{Memory}
use Rattle.chi_lanes.specs.declared.reply.Reply.{Reply}
use Rattle.chi_lanes.specs.declared.reply.Reply.TheVariants.{Comp, CompData}
use Rattle.chi_trace.specs.declared.reply.ReplyFault.{ReplyFault}
use Rattle.chi_trace.specs.declared.reply.ReplyFault.TheVariants.{WithData, WithoutData, OutsideOperand}

-- a home answers data to all kinds but a write and a store
abbrev pub answers_data : Kind → Bool
answers_data Write = false
answers_data (Store op) = false
answers_data kind = true

-- each of some bytes is 0
abbrev pub are_zero : List ℕ → Bool
are_zero bytes = list_all (λ byte. byte == 0) bytes

-- a data packet holds 0 in each lane outside an operand of len bytes from lane l on
abbrev pub is_within : ℕ → ℕ → List ℕ → Bool
is_within l len lanes = are_zero (take l lanes) && are_zero (drop (l + len) lanes)

-- why an access has no such reply at any memory, if so; where no reply was seen there is no reason
abbrev pub reply_fault : Access → Option Reply → Option ReplyFault
reply_fault o None = None
reply_fault o (Some Comp) = if answers_data o.kind then Some WithoutData else None
reply_fault o (Some (CompData lanes)) =
    if not (answers_data o.kind) then Some WithData
    else if is_within (lane_of o.addr) o.len lanes then None else Some OutsideOperand

-- A reply with a fault is the access's answer at no memory.
abbrev pub FaultyRepliesAreNoAnswers : Type 0
FaultyRepliesAreNoAnswers = (o : Access) (reply : Reply) (fault : ReplyFault) → reply_fault o (Some reply) ≡ Some fault → (m : Memory) → reply ≡ answer o m → ⊥
