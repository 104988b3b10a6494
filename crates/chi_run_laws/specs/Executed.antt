-- the operations and the refusals of a script's lines, which were executed one after another
use Rattle.std.specs.Prelude.{ℕ, List, Option, option_map, None, Some}
use Rattle.std.specs.List.{enumerate_from, filter_map}
use Rattle.chi_fields.specs.Access.{Access}
use Rattle.chi_fields.specs.Refusal.{access_of}
use Rattle.chi_fields.specs.declared.refusal.Refusal.{Refusal}
use Rattle.chi_fields.specs.declared.request.Request.{Request}
use Rattle.chi_lanes.specs.declared.reply.Reply.{Reply}
use Rattle.chi_history.specs.declared.line.Line.{Line}
use Rattle.chi_history.specs.declared.line.Line.TheVariants.{Completed, Refused, Retried}
use Rattle.chi_trace.specs.declared.operation.Operation.{Operation}

-- what a completed request did, which starts and ends at a time
abbrev pub done_at : ℕ → Request → Reply → Access → Operation
done_at time q reply access = record { number = time; src = q.src; txn = q.txn; access = access; start = time; end = time; reply = Some reply }

-- the operation of a line: only a completed request is one, and what it did is the access that it describes
abbrev pub operation_at : ℕ → Line → Option Operation
operation_at time (Completed q reply) = option_map (done_at time q reply) (access_of q)
operation_at time (Refused q refusal) = None
operation_at time (Retried q) = None

-- The operations of lines that were executed one after another, each at the time that is its line's place, counted from 0: it
-- has ended before the next one starts.
abbrev pub executed : List Line → List Operation
executed lines = filter_map (λ p. operation_at p.0 p.1) (enumerate_from 0 lines)

-- why the request of a line was refused
abbrev pub refusal_in : Line → Option Refusal
refusal_in (Completed q reply) = None
refusal_in (Refused q refusal) = Some refusal
refusal_in (Retried q) = None

-- the refusals of lines, in their order
abbrev pub refusals_in : List Line → List Refusal
refusals_in lines = filter_map refusal_in lines
