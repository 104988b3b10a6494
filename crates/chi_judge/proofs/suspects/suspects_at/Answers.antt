-- one more, where the next operation is one, and then in another order
use Rattle.std.proofs.Common.{ℕ, ◌+◌, ◌<◌, ◌∷◌, [], List, All, inl, inr, length, sym, subst, arith}
use Rattle.std.proofs.lemmas.List.Elements.{All-append, All-cons, All-nil, All-weaker}
use Rattle.std.proofs.lemmas.List.Sorted.{All-permutation, Contains-permutation}
use Rattle.chi_search.proofs.Looking.{some_after}
use Rattle.chi_judge.specs.Legal.{IsAnsweredAt, IsSuspectAt, MayBeSuspectAt}
use Rattle.chi_judge.proofs.Found.{AreFirst, none_more, one_more}
use Rattle.chi_judge.proofs.suspects.suspects_at.Goals as goal
use Rattle.chi_judge.proofs.suspects.suspects_at.Goals.{then-branch+in_ok-push, else-branch}

pub loop-place-preserved : goal.loop-place-preserved
loop-place-preserved g c =
    let looked = g.P.Progress.looked in
    let old = c.args.progress.now in
    let middle = c.loop-place.progress in
    let new = c.is_suspect.new.progress in
    let Is = MayBeSuspectAt c.args.before.now c.args.ops.now c.args.time in
    let P = IsSuspectAt c.args.before.now c.args.ops.now c.args.time in
    let Q : ℕ → Type 0 = λ i. i < length c.args.ops.now in
    let F : List ℕ → Type 0 = AreFirst looked old new c.args.budget Is (c.loop-place.place + 1) in
    let before = c.loop-place.places.items in
    let place = c.loop-place.place in
    record {
      within = elim c.if-branch.branch [
        | then-branch+in_ok-push v ↦
            subst (λ (u : _). All Q u.items) (sym v.places-is)
            (subst (All Q) (sym v.in_ok-push.ensures.items)
            (All-append Q before (place ∷ []) c.loop-place.invariant.within (All-cons Q place [] (omega arith) (All-nil Q))))
        | else-branch v ↦ subst (λ (u : _). All Q u.items) (sym v.places-is) c.loop-place.invariant.within
      ];
      suspects = elim c.if-branch.branch [
        | then-branch+in_ok-push v ↦
            subst (λ (u : _). All P u.items) (sym v.places-is)
            (subst (All P) (sym v.in_ok-push.ensures.items)
            (All-append P before (place ∷ []) c.loop-place.invariant.suspects (All-cons P place [] (c.in_ok-is_suspect.ensures.suspect v.if-branch.true) (All-nil P))))
        | else-branch v ↦ subst (λ (u : _). All P u.items) (sym v.places-is) c.loop-place.invariant.suspects
      ];
      all = elim c.if-branch.branch [
        | then-branch+in_ok-push v ↦
            subst (λ (u : _). F u.items) (sym v.places-is)
            (subst F (sym v.in_ok-push.ensures.items)
            (one_more looked old middle new c.args.budget Is place before c.loop-place.invariant.all c.in_ok-is_suspect.ensures.looked))
        | else-branch v ↦
            subst (λ (u : _). F u.items) (sym v.places-is)
            (none_more looked old middle new c.args.budget Is place before
            c.loop-place.invariant.all c.loop-place.invariant.looked c.in_ok-is_suspect.ensures.looked (c.in_ok-is_suspect.ensures.other v.if-branch.false))
      ];
      looked = some_after looked old middle new c.loop-place.invariant.looked c.in_ok-is_suspect.ensures.looked;
    }

pub returns-clause-within : goal.returns-clause-within
returns-clause-within g c =
    All-permutation (λ i. i < length c.args.ops.now) c.loop-place.places.items c.sort_by_key.new.self.items c.in_ok-sort_by_key.ensures.permutation c.loop-place.invariant.within

pub returns-clause-answered : goal.returns-clause-answered
returns-clause-answered g c =
    All-weaker (IsSuspectAt c.args.before.now c.args.ops.now c.args.time) (IsAnsweredAt c.args.ops.now c.args.time) (λ i suspect. suspect.is) c.sort_by_key.new.self.items
    (All-permutation (IsSuspectAt c.args.before.now c.args.ops.now c.args.time) c.loop-place.places.items c.sort_by_key.new.self.items c.in_ok-sort_by_key.ensures.permutation
    c.loop-place.invariant.suspects)

pub returns-clause-suspects : goal.returns-clause-suspects
returns-clause-suspects g c =
    All-permutation (IsSuspectAt c.args.before.now c.args.ops.now c.args.time) c.loop-place.places.items c.sort_by_key.new.self.items c.in_ok-sort_by_key.ensures.permutation
    c.loop-place.invariant.suspects

pub returns-clause-all : goal.returns-clause-all
returns-clause-all g c i below is =
    elim (c.loop-place.invariant.all i (omega (arith, below)) is) [
      | inl there ↦ inl (Contains-permutation c.loop-place.places.items c.sort_by_key.new.self.items i c.in_ok-sort_by_key.ensures.permutation there)
      | inr spent ↦ inr spent
    ]
