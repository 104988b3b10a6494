-- what is reported of requests, and the RetryAcks in it
use Rattle.std.proofs.Common.{◌≡◌, ℕ, ◌+◌, ◌*◌, ◌≤◌, ◌==◌, List, [], ◌∷◌, ◌++◌, Option, None, Some, Ok, refl, sym, ap, subst, ◌∙◌, eq-eqb, zero-add, arith, append-nil, inl, inr}
use Rattle.std.proofs.lemmas.Grind.{common_steps}
use Rattle.std.proofs.lemmas.List.Sums.{sum_by-append}
use Rattle.std.specs.Prelude.{option_map}
use Rattle.chi_fields.specs.declared.kind.Kind.{Kind}
use Rattle.chi_fields.specs.declared.request.Request.{Request}
use Rattle.chi_fields.specs.Extent.{Extent, granule_of}
use Rattle.chi_fields.specs.Opcode.{kind_of}
use Rattle.chi_fields.specs.Access.{Access}
use Rattle.chi_fields.specs.Refusal.{access_of, access_as, decision, decision_as, decision_of}
use Rattle.chi_lanes.specs.declared.reply.Reply.{Reply}
use Rattle.chi_history.specs.declared.line.Line.{Line}
use Rattle.chi_history.specs.declared.line.Line.TheVariants.{Completed, Retried}
use Rattle.chi_history.specs.History.{one_if}
use Rattle.chi_history.specs.Lines.{is_in_granule, is_retried, retried}
use Rattle.chi_requester.specs.declared.policy.Policy.{Policy}
use Rattle.chi_requester.specs.declared.policy.Policy.TheVariants.{Resend, Return}
use Rattle.chi_requester.specs.Reports.{Retold, Told, ToldOf}

-- what is reported of one request alone may be reported of it
pub told_alone : (region : Extent) (policy : Policy) (limit : ℕ) (q : Request) (piece : List Line) → Told region policy limit (q ∷ []) piece
    → ToldOf (decision q region) policy limit q piece
unfolding Told
told_alone region policy limit q piece told =
    let P : List Line → Type 0 = λ xs. ToldOf (decision q region) policy limit q xs in
    let all : piece ≡ told.0 = told.2 ∙ (ap (λ (xs : List Line). told.0 ++ xs) told.4 ∙ append-nil told.0) in
    subst P (sym all) told.3

-- the RetryAcks of two lists of lines are counted together
pub retried-append : (region : Extent) (xs ys : List Line) (g : ℕ) → retried region (xs ++ ys) g ≡ retried region xs g + retried region ys g
retried-append region xs ys g = sum_by-append (λ (x : Line). one_if (is_retried region g x)) xs ys

-- a RetryAck to a request for a granule counts there alone
pub retried_one : (region : Extent) (q : Request) (a : Access) (g : ℕ) → access_of q ≡ Some a
    → retried region (Retried q ∷ []) g ≡ one_if (granule_of a.addr region == g)
retried_one region q a g is = zero-add (one_if (is_in_granule region g (access_of q))) ∙ ap (λ (x : Option Access). one_if (is_in_granule region g x)) is

-- what is reported of a request that was answered by RetryAck has one RetryAck, under either policy
pub retold_counted : (region : Extent) (policy : Policy) (q : Request) (a : Access) (piece : List Line) → access_of q ≡ Some a → Retold policy q piece
    → retried region piece (granule_of a.addr region) ≡ 1
retold_counted region Resend q a piece is told =
    let g : ℕ = granule_of a.addr region in
    ap (λ (p : List Line). retried region p g) told.1 ∙ (retried-append region (Retried q ∷ []) (Completed q told.0 ∷ []) g
    ∙ ap (λ (n : ℕ). n + 0) (retried_one region q a g is ∙ ap one_if (eq-eqb g g refl)))
retold_counted region Return q a piece is told =
    let g : ℕ = granule_of a.addr region in
    ap (λ (p : List Line). retried region p g) told ∙ (retried_one region q a g is ∙ ap one_if (eq-eqb g g refl))

-- a request of this kind that is not refused has the access that it describes
access_as-decided : (region : Extent) (q : Request) (kind : Kind) (a : Access) → decision_as kind q region ≡ Ok a → access_as kind q ≡ a
unfolding decision_as
access_as-decided region q kind a decided = grind (arith, common_steps)

-- so has a request of any kind
pub access_of-decided : (region : Extent) (q : Request) (a : Access) → decision q region ≡ Ok a → access_of q ≡ Some a
access_of-decided region q a = by_kind (kind_of q.opcode)
  where
    by_kind : (k : Option Kind) → decision_of k q region ≡ Ok a → option_map (λ (kind : Kind). access_as kind q) k ≡ Some a
    by_kind None decided = cc
    by_kind (Some kind) decided = ap (λ (o : Access). Some o) (access_as-decided region q kind a decided)

-- where no RetryAck is paid for, a request that is not refused is reported by its completion alone
pub told_unpaid : (region : Extent) (policy : Policy) (limit : ℕ) (q : Request) (a : Access) (piece : List Line) → access_of q ≡ Some a
    → ToldOf (Ok a) policy limit q piece → ((g : ℕ) → limit * retried region piece g ≤ 0) → (reply : Reply) × (piece ≡ Completed q reply ∷ [])
told_unpaid region policy limit q a piece is told unpaid = elim told [ inl done ↦ done | inr retry ↦ absurd (never retry.0 retry.1) ]
  where
    never : 1 ≤ limit → Retold policy q piece → ⊥
    never some retold =
        let Q : ℕ → Type 0 = λ n. limit * n ≤ 0 in
        let none_left : limit * 1 ≤ 0 = subst Q (retold_counted region policy q a piece is retold) (unpaid (granule_of a.addr region)) in
        omega arith
