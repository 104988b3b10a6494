-- the stretches of requests, and what is reported of these
use Rattle.std.proofs.Common.{◌≡◌, ℕ, List, [], ◌∷◌, ◌++◌, Result, Ok, Err, refl, sym, ap, subst, ◌∙◌, append_assoc, append-nil, inl, inr}
use Rattle.chi_fields.specs.declared.refusal.Refusal.{Refusal}
use Rattle.chi_fields.specs.declared.request.Request.{Request}
use Rattle.chi_fields.specs.Access.{Access}
use Rattle.chi_fields.specs.Refusal.{decision}
use Rattle.chi_history.specs.declared.entry.Entry.{Entry}
use Rattle.chi_history.specs.declared.line.Line.{Line}
use Rattle.chi_history.specs.declared.line.Line.TheVariants.{Retried}
use Rattle.chi_history.specs.declared.opening.Opening.{Opening}
use Rattle.chi_history.specs.NumberSets.{Held}
use Rattle.chi_requester.specs.declared.policy.Policy.{Policy}
use Rattle.chi_requester.specs.declared.policy.Policy.TheVariants.{Resend, Return}
use Rattle.chi_requester.specs.Reports.{Retold, Told, ToldOf}
use Rattle.chi_requester.specs.Stretches.{IsFollowed, StretchOf, Stretches}

-- no request
pub stretches_none : (o : Opening) (policy : Policy) (limit : ℕ) (held : Held) (seen : List Entry) → Stretches o policy limit held seen seen [] []
unfolding Stretches
stretches_none o policy limit held seen = (refl, refl)

-- one request, as it is decided
pub stretches_one : (o : Opening) (policy : Policy) (limit : ℕ) (held : Held) (seen seen' : List Entry) (q : Request) (d : Result Access Refusal) (piece : List Line)
    → decision q o.region ≡ d → StretchOf d o policy limit held seen seen' q piece → Stretches o policy limit held seen seen' (q ∷ []) piece
unfolding Stretches
stretches_one o policy limit held seen seen' q d piece is stretch =
    let P : Result Access Refusal → Type 0 = λ r. StretchOf r o policy limit held seen seen' q piece in
    (piece, [], seen', sym (append-nil piece), subst P (sym is) stretch, (refl, refl))

-- some requests, and then others
pub stretches-append : (o : Opening) (policy : Policy) (limit : ℕ) (held : Held) (seen seen' seen'' : List Entry) (qs rs : List Request) (xs ys : List Line)
    → Stretches o policy limit held seen seen' qs xs → Stretches o policy limit held seen' seen'' rs ys → Stretches o policy limit held seen seen'' (qs ++ rs) (xs ++ ys)
unfolding Stretches
stretches-append o policy limit held seen seen' seen'' [] rs xs ys front back =
    subst (λ (z : List Line × List Entry). Stretches o policy limit held z.1 seen'' rs (z.0 ++ ys)) (λ i. (sym front.0 i, front.1 i)) back
stretches-append o policy limit held seen seen' seen'' (q ∷ qs) rs xs ys front back = (
  front.0,
  front.1 ++ ys,
  front.2,
  ap (λ (z : List Line). z ++ ys) front.3 ∙ append_assoc front.0 front.1 ys,
  front.4,
  stretches-append o policy limit held front.2 seen' seen'' qs rs front.1 ys front.5 back,
)

-- what follows a RetryAck is what may be reported of it
retold : (policy : Policy) (o : Opening) (held : Held) (src : ℕ) (mid seen' : List Entry) (q : Request) (a : Access) (piece : List Line)
    → IsFollowed policy o held src mid seen' q a (Retried q ∷ []) piece → Retold policy q piece
retold Resend o held src mid seen' q a piece followed = (followed.0, followed.1)
retold Return o held src mid seen' q a piece followed = followed.0

-- the piece of a stretch is what may be reported of the request
told_of : (d : Result Access Refusal) (o : Opening) (policy : Policy) (limit : ℕ) (held : Held) (seen seen' : List Entry) (q : Request) (piece : List Line)
    → StretchOf d o policy limit held seen seen' q piece → ToldOf d policy limit q piece
told_of (Err fault) o policy limit held seen seen' q piece stretch = stretch.0
told_of (Ok a) o policy limit held seen seen' q piece stretch = elim stretch [
  | inl done ↦ inl (done.0, done.1)
  | inr retry ↦ inr (retry.0, retold policy o held q.src retry.1 seen' q a piece retry.3)
]

-- so the lines report the requests
pub stretches_told : (o : Opening) (policy : Policy) (limit : ℕ) (held : Held) (seen seen' : List Entry) (qs : List Request) (lines : List Line)
    → Stretches o policy limit held seen seen' qs lines → Told o.region policy limit qs lines
unfolding Stretches Told
stretches_told o policy limit held seen seen' [] lines all = all.0
stretches_told o policy limit held seen seen' (q ∷ qs) lines all = (
  all.0,
  all.1,
  all.3,
  told_of (decision q o.region) o policy limit held seen all.2 q all.0 all.4,
  stretches_told o policy limit held all.2 seen' qs all.1 all.5,
)
