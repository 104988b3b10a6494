-- the work on one request
use Rattle.std.proofs.Common.{◌≡◌, ℕ, ◌≤◌, true, List, [], ◌∷◌, ◌++◌, Some, Result, Ok, Err, refl, sym, subst, ◌∙◌, append_assoc, inl, inr, zero-le}
use Rattle.chi_fields.specs.declared.refusal.Refusal.{Refusal}
use Rattle.chi_fields.specs.declared.request.Request.{Request}
use Rattle.chi_fields.specs.Access.{Access}
use Rattle.chi_fields.specs.Refusal.{access_of, decision}
use Rattle.chi_lanes.specs.declared.reply.Reply.{Reply}
use Rattle.chi_history.specs.declared.entry.Entry.{Entry}
use Rattle.chi_history.specs.declared.line.Line.{Line}
use Rattle.chi_history.specs.declared.line.Line.TheVariants.{Completed, Refused, Retried}
use Rattle.chi_history.specs.declared.opening.Opening.{Opening}
use Rattle.chi_history.specs.NumberSets.{Held}
use Rattle.chi_history.specs.HomeClauses.{Completes, Retries}
use Rattle.chi_requester.specs.declared.policy.Policy.{Policy}
use Rattle.chi_requester.specs.declared.policy.Policy.TheVariants.{Resend, Return}
use Rattle.chi_requester.specs.Stretches.{IsFollowed, StretchOf}
use Rattle.chi_requester.specs.Work.{IsExecuted}
use Rattle.chi_requester.proofs.ReportLemmas.{access_of-decided}
use Rattle.chi_requester.proofs.StretchLemmas.{stretches_one}
use Rattle.chi_requester.proofs.WorkLemmas.{Adds, adds-append, adds_done, adds_refused, adds_retried, executed_from}

-- what follows a RetryAck adds
adds_followed : (policy : Policy) (o : Opening) (limit : ℕ) (held : Held) (seen mid seen' : List Entry) (q : Request) (a : Access) (piece : List Line)
    → held q.src ≡ true → access_of q ≡ Some a → Adds o limit held q.src seen mid (Retried q ∷ []) → IsFollowed policy o held q.src mid seen' q a (Retried q ∷ []) piece
    → Adds o limit held q.src seen seen' piece
adds_followed Resend o limit held seen mid seen' q a piece holds is retried followed =
    let P : List Line → Type 0 = λ xs. Adds o limit held q.src seen seen' xs in
    subst P (sym followed.1) (adds-append o limit held q.src seen mid seen' (Retried q ∷ []) (Completed q followed.0 ∷ []) retried (adds_done o limit held mid seen' q a followed.0 0 holds is followed.2))
adds_followed Return o limit held seen mid seen' q a piece holds is retried followed =
    subst (λ (z : List Line × List Entry). Adds o limit held q.src seen z.1 z.0) (λ i. (sym followed.0 i, sym followed.1 i)) retried

-- what the stretch of a request adds
adds_stretch : (d : Result Access Refusal) (o : Opening) (policy : Policy) (limit : ℕ) (held : Held) (seen seen' : List Entry) (q : Request) (piece : List Line)
    → held q.src ≡ true → decision q o.region ≡ d → StretchOf d o policy limit held seen seen' q piece → Adds o limit held q.src seen seen' piece
adds_stretch (Err fault) o policy limit held seen seen' q piece holds is stretch =
    subst (λ (z : List Line × List Entry). Adds o limit held q.src seen z.1 z.0) (λ i. (sym stretch.0 i, sym stretch.1 i)) (adds_refused o limit held q.src seen q fault)
adds_stretch (Ok a) o policy limit held seen seen' q piece holds is stretch = elim stretch [
  | inl done ↦
      let P : List Line → Type 0 = λ xs. Adds o limit held q.src seen seen' xs in
      subst P (sym done.1) (adds_done o limit held seen seen' q a done.0 0 holds (access_of-decided o.region q a is) done.2)
  | inr retry ↦
      let described = access_of-decided o.region q a is in
      adds_followed policy o limit held seen retry.1 seen' q a piece holds described (adds_retried o limit held seen retry.1 q a limit holds described retry.2 refl) retry.3
]

-- a request, from its stretch
executed_stretch : (o : Opening) (policy : Policy) (limit : ℕ) (held : Held) (seen seen' : List Entry) (q : Request) (d : Result Access Refusal) (piece : List Line)
    → held q.src ≡ true → decision q o.region ≡ d → StretchOf d o policy limit held seen seen' q piece → IsExecuted o policy limit held q.src seen seen' (q ∷ []) piece
executed_stretch o policy limit held seen seen' q d piece holds is stretch =
    executed_from o policy limit held q.src seen seen' (q ∷ []) piece (adds_stretch d o policy limit held seen seen' q piece holds is stretch)
    (stretches_one o policy limit held seen seen' q d piece is stretch)

-- a request that is refused
pub executed_refused : (o : Opening) (policy : Policy) (limit : ℕ) (held : Held) (seen : List Entry) (q : Request) (fault : Refusal) → held q.src ≡ true
    → decision q o.region ≡ Err fault → IsExecuted o policy limit held q.src seen seen (q ∷ []) (Refused q fault ∷ [])
executed_refused o policy limit held seen q fault holds is =
    executed_stretch o policy limit held seen seen q (Err fault) (Refused q fault ∷ []) holds is (refl, refl)

-- a request that is done
pub executed_done : (o : Opening) (policy : Policy) (limit : ℕ) (held : Held) (seen seen' : List Entry) (q : Request) (a : Access) (reply : Reply) (lost : ℕ)
    → held q.src ≡ true → decision q o.region ≡ Ok a → Completes o held seen seen' q.src a reply lost
    → IsExecuted o policy limit held q.src seen seen' (q ∷ []) (Completed q reply ∷ [])
executed_done o policy limit held seen seen' q a reply lost holds is done =
    executed_stretch o policy limit held seen seen' q (Ok a) (Completed q reply ∷ []) holds is (inl (reply, refl, (done.0, done.1, done.2, zero-le)))

-- a request that is answered by RetryAck, and what follows by the policy
pub executed_followed : (o : Opening) (policy : Policy) (limit : ℕ) (held held' : Held) (seen retried seen' : List Entry) (q : Request) (a : Access) (lost credit : ℕ) (lines more lines' : List Line)
    → held q.src ≡ true → decision q o.region ≡ Ok a → Retries o held seen retried a lost → lost ≡ limit → 1 ≤ limit → credit ≡ q.src
    → held' ≡ held → more ≡ lines ++ Retried q ∷ [] → IsFollowed policy o held' credit retried seen' q a more lines'
    → (piece : List Line) × (lines' ≡ lines ++ piece) × IsExecuted o policy limit held q.src seen seen' (q ∷ []) piece
executed_followed o policy limit held held' seen retried seen' q a lost credit lines more lines' holds is retry whole some own same pushed followed =
    let here = subst (λ (z : Held × (ℕ × List Line)). IsFollowed policy o z.0 z.1.0 retried seen' q a z.1.1 lines') (λ i. (same i, (own i, pushed i))) followed in
    let t = followed_piece policy o held retried seen' q a lines lines' here in
    let P : ℕ → Type 0 = λ n. Retries o held seen retried a n in
    (t.0, t.1, executed_stretch o policy limit held seen seen' q (Ok a) t.0 holds is (inr (some, retried, subst P whole retry, t.2)))
  where
    -- the lines that follow, after those before
    followed_piece : (policy : Policy) (o : Opening) (held : Held) (mid seen' : List Entry) (q : Request) (a : Access) (lines lines' : List Line)
        → IsFollowed policy o held q.src mid seen' q a (lines ++ Retried q ∷ []) lines'
        → (piece : List Line) × (lines' ≡ lines ++ piece) × IsFollowed policy o held q.src mid seen' q a (Retried q ∷ []) piece
    followed_piece Resend o held mid seen' q a lines lines' f = (
      Retried q ∷ Completed q f.0 ∷ [],
      f.1 ∙ append_assoc lines (Retried q ∷ []) (Completed q f.0 ∷ []),
      (f.0, refl, f.2),
    )
    followed_piece Return o held mid seen' q a lines lines' f = (Retried q ∷ [], f.0, (refl, f.1))
