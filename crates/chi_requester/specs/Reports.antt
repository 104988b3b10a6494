-- what the lines of a requester's work report of its requests, under a policy
use Rattle.std.specs.Prelude.{◌≡◌, ℕ, ◌≤◌, List, [], ◌∷◌, ◌++◌, ◌⊎◌, Result, Ok, Err}
use Rattle.chi_fields.specs.declared.refusal.Refusal.{Refusal}
use Rattle.chi_fields.specs.declared.request.Request.{Request}
use Rattle.chi_fields.specs.Extent.{Extent}
use Rattle.chi_fields.specs.Access.{Access}
use Rattle.chi_fields.specs.Refusal.{decision}
use Rattle.chi_lanes.specs.declared.reply.Reply.{Reply}
use Rattle.chi_history.specs.declared.line.Line.{Line}
use Rattle.chi_history.specs.declared.line.Line.TheVariants.{Completed, Refused, Retried}
use Rattle.chi_requester.specs.declared.policy.Policy.{Policy}
use Rattle.chi_requester.specs.declared.policy.Policy.TheVariants.{Resend, Return}

-- what is reported of a request that was answered by RetryAck: under Resend this, and then its completion on the
-- credit; under Return this alone
abbrev pub Retold : Policy → Request → List Line → Type 0
Retold Resend q piece = (reply : Reply) × (piece ≡ Retried q ∷ Completed q reply ∷ [])
Retold Return q piece = piece ≡ Retried q ∷ []

-- What may be reported of one request: its refusal alone; else its completion alone, or, only where the home
-- retries, a RetryAck and what the policy does after it.
abbrev pub ToldOf : Result Access Refusal → Policy → ℕ → Request → List Line → Type 0
ToldOf (Err fault) policy limit q piece = piece ≡ Refused q fault ∷ []
ToldOf (Ok a) policy limit q piece = ((reply : Reply) × (piece ≡ Completed q reply ∷ [])) ⊎ ((1 ≤ limit) × Retold policy q piece)

-- the lines are one piece for each request, in order
unfoldable pub Told : Extent → Policy → ℕ → List Request → List Line → Type 0
Told region policy limit [] lines = lines ≡ []
Told region policy limit (q ∷ qs) lines =
    (piece : List Line) × (rest : List Line) × (lines ≡ piece ++ rest) × ToldOf (decision q region) policy limit q piece
    × Told region policy limit qs rest
