-- what of the history each request of a requester's work took
use Rattle.std.specs.Prelude.{◌≡◌, ℕ, ◌≤◌, List, [], ◌∷◌, ◌++◌, ◌⊎◌, Result, Ok, Err}
use Rattle.chi_fields.specs.declared.refusal.Refusal.{Refusal}
use Rattle.chi_fields.specs.declared.request.Request.{Request}
use Rattle.chi_fields.specs.Access.{Access}
use Rattle.chi_fields.specs.Refusal.{decision}
use Rattle.chi_lanes.specs.declared.reply.Reply.{Reply}
use Rattle.chi_history.specs.declared.entry.Entry.{Entry}
use Rattle.chi_history.specs.declared.line.Line.{Line}
use Rattle.chi_history.specs.declared.line.Line.TheVariants.{Completed, Refused, Retried}
use Rattle.chi_history.specs.declared.opening.Opening.{Opening}
use Rattle.chi_history.specs.NumberSets.{Held}
use Rattle.chi_history.specs.HomeClauses.{Completes, Retries}
use Rattle.chi_requester.specs.declared.policy.Policy.{Policy}
use Rattle.chi_requester.specs.declared.policy.Policy.TheVariants.{Resend, Return}

-- what follows a RetryAck to the requester src: under Resend the request is completed on the credit, and the
-- line of it is appended; under Return nothing more is done
abbrev pub IsFollowed : Policy → Opening → Held → ℕ → List Entry → List Entry → Request → Access → List Line → List Line → Type 0
IsFollowed Resend o held src seen seen' q a lines lines' =
    (reply : Reply) × (lines' ≡ lines ++ Completed q reply ∷ []) × Completes o held seen seen' src a reply 0
IsFollowed Return o held src seen seen' q a lines lines' = (lines' ≡ lines) × (seen' ≡ seen)

-- One request, from the history seen before it to that seen after it. A refused one leaves the history. Another is
-- completed by its own entry, after entries of others alone; or, only where the home retries, entries of others
-- alone first change its granule as often as the limit says, and then the policy is followed.
abbrev pub StretchOf : Result Access Refusal → Opening → Policy → ℕ → Held → List Entry → List Entry → Request → List Line → Type 0
StretchOf (Err fault) o policy limit held seen seen' q piece = (piece ≡ Refused q fault ∷ []) × (seen' ≡ seen)
StretchOf (Ok a) o policy limit held seen seen' q piece =
    ((reply : Reply) × (piece ≡ Completed q reply ∷ []) × Completes o held seen seen' q.src a reply 0)
    ⊎ ((1 ≤ limit) × (mid : List Entry) × Retries o held seen mid a limit × IsFollowed policy o held q.src mid seen' q a (Retried q ∷ []) piece)

-- the lines and the history are one piece and one stretch for each request, in order
unfoldable pub Stretches : Opening → Policy → ℕ → Held → List Entry → List Entry → List Request → List Line → Type 0
Stretches o policy limit held seen seen' [] lines = (lines ≡ []) × (seen' ≡ seen)
Stretches o policy limit held seen seen' (q ∷ qs) lines =
    (piece : List Line) × (rest : List Line) × (mid : List Entry) × (lines ≡ piece ++ rest)
    × StretchOf (decision q o.region) o policy limit held seen mid q piece × Stretches o policy limit held mid seen' qs rest
