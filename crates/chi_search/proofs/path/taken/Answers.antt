-- one step more
use Rattle.std.proofs.Common.{◌≡◌, ℕ, ◌+◌, ◌<◌, List, [], ◌∷◌, ◌++◌, length, get_or, take, Option, Some, None, refl, sym, ap, ◌∙◌, arith}
use Rattle.std.proofs.lemmas.List.{append-nil, take_more}
use Rattle.chi_search.specs.declared.path.Step.{Step}
use Rattle.chi_search.specs.Paths.{after_op, taken}
use Rattle.chi_search.proofs.path.taken.Goals as goal
use Rattle.chi_search.proofs.path.taken.Goals.{in-Some+in_ok-push, in_default}

-- an operation before others and a last one
before_more : (op : Option ℕ) (all order last : List ℕ) → all ≡ order ++ last → after_op op all ≡ after_op op order ++ last
before_more None all order last is = is
before_more (Some i) all order last is = ap (λ xs. i ∷ xs) is

-- the operation of a step after a path
taken_push : (path : List Step) (step : Step) → taken (path ++ step ∷ []) ≡ taken path ++ after_op step.op []
unfolding taken
taken_push [] step = refl
taken_push (first ∷ path) step = before_more first.op (taken (path ++ step ∷ [])) (taken path) (after_op step.op []) (taken_push path step)

-- the operation of the step at a place of a path
taken_more : (path : List Step) (i : ℕ) (step : Step) → i < length path → step ≡ get_or path i step
    → taken (take (i + 1) path) ≡ taken (take i path) ++ after_op step.op []
taken_more path i step below is =
    ap taken (take_more path i step below) ∙ (taken_push (take i path) (get_or path i step) ∙ ap (λ s. taken (take i path) ++ after_op s.op []) (sym is))

pub loop-step-init : goal.loop-step-init
unfolding taken
loop-step-init c = c.in_ok-order.ensures.items

pub loop-step-preserved : goal.loop-step-preserved
loop-step-preserved c =
    let more = taken_more c.args.path.now c.loop-step.step-index c.step-item.result (omega arith) c.step-item.is in
    elim c.match-step.branch [
      | in-Some+in_ok-push w ↦
          rw w.order-is (w.in_ok-push.ensures.items ∙ (ap (λ xs. xs ++ w.in-Some.op ∷ []) c.loop-step.invariant
          ∙ sym (more ∙ ap (λ op. taken (take c.loop-step.step-index c.args.path.now) ++ after_op op []) w.in-Some.is)))
      | in_default w ↦ rw w.order-is (c.loop-step.invariant ∙ sym (more ∙ (ap (λ op. taken (take c.loop-step.step-index c.args.path.now) ++ after_op op []) w.in_default.is ∙ append-nil _)))
    ]
