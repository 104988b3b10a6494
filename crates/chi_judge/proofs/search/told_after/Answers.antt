-- one operation more is told
use Rattle.std.proofs.Common.{◌≡◌, ◌+◌, ◌≤◌, List, [], ◌∷◌, ◌++◌, All, take, drop, length, append_assoc, append-nil, sym, ap, subst, ◌∙◌, arith, true≢false, suc, drop-cons, get_or}
use Rattle.std.proofs.lemmas.List.{take-append-drop, take_all, take_more}
use Rattle.std.proofs.lemmas.List.Elements.{All-contains, Contains-push}
use Rattle.chi_trace.specs.declared.operation.Operation.{Operation}
use Rattle.chi_search.specs.Frontiers.{Follows, GoesAlong, MayBeTold}
use Rattle.chi_judge.specs.Judges.{LiesWithin}
use Rattle.chi_judge.proofs.More.{may_first, may_rest, may_same}
use Rattle.chi_judge.proofs.search.told_after.Goals as goal

pub loop-op-init : goal.loop-op-init
loop-op-init c = record {
  follows = λ words told follows. subst (λ (l : List Operation). Follows words l c.in_ok-after.after) (sym (append-nil told)) (c.in_ok-after.ensures.follows words told follows);
  along = λ words told along. subst (λ (l : List Operation). GoesAlong words l c.in_ok-after.after) (sym (append-nil told)) (c.in_ok-after.ensures.along words told along);
  operations = c.in_ok-after.ensures.same.0 ∙ sym (append-nil c.args.before.now.operations);
  next = λ rest may. may_same c.args.before.now c.in_ok-after.after rest c.in_ok-after.ensures.same.1 c.in_ok-after.ensures.same.2 may;
  horizon = c.in_ok-after.ensures.same.1;
  latest = λ time le all. subst (λ n. n ≤ time) (sym c.in_ok-after.ensures.same.2) le;
}

pub returns-then-not-branch-clause-refused : goal.returns-then-not-branch-clause-refused
returns-then-not-branch-clause-refused c none may within =
    let more = c.args.more.now in
    let i = c.loop-op.op-index in
    let op = c.op-item.result in
    let below : i + 1 ≤ length more = omega arith in
    let is : op ≡ get_or more i op = c.op-item.is in
    let parts : more ≡ take i more ++ op ∷ drop (suc i) more =
    sym (take-append-drop i more) ∙ ap (λ (l : List Operation). take i more ++ l) (drop-cons more i op (omega arith) ∙ ap (λ (o : Operation). o ∷ drop (suc i) more) (sym is)) in
    let can = may_first c.loop-op.after op (drop (suc i) more) (c.loop-op.invariant.next (op ∷ drop (suc i) more) (subst (MayBeTold c.args.before.now) parts may)) in
    let lies : LiesWithin op = subst LiesWithin (sym is) (within i op (omega arith)) in
    true≢false (sym (c.in_ok-add.ensures.taken.1 (can, lies)) ∙ c.if-not-branch.true)

pub loop-op-preserved : goal.loop-op-preserved
loop-op-preserved c =
    let more = c.args.more.now in
    let i = c.loop-op.op-index in
    let op = c.op-item.result in
    let is : op ≡ get_or more i op = c.op-item.is in
    let grown : take (i + 1) more ≡ take i more ++ op ∷ [] = take_more more i op (omega arith) ∙ ap (λ (o : Operation). take i more ++ o ∷ []) (sym is) in
    let last = c.in_ok-add.ensures.last c.if-not-branch.false in
    record {
      follows = λ words told follows.
          subst (λ (l : List Operation). Follows words l c.add.new.self) (append_assoc told (take i more) (op ∷ []) ∙ ap (λ (l : List Operation). told ++ l) (sym grown))
          (c.in_ok-add.ensures.told c.if-not-branch.false words (told ++ take i more) (c.loop-op.invariant.follows words told follows));
      along = λ words told along.
          subst (λ (l : List Operation). GoesAlong words l c.add.new.self) (append_assoc told (take i more) (op ∷ []) ∙ ap (λ (l : List Operation). told ++ l) (sym grown))
          (c.in_ok-add.ensures.along c.if-not-branch.false words (told ++ take i more) (c.loop-op.invariant.along words told along));
      operations =
          c.in_ok-add.ensures.operations c.if-not-branch.false
          ∙ ap (λ (l : List Operation). l ++ op ∷ []) c.loop-op.invariant.operations
          ∙ append_assoc c.args.before.now.operations (take i more) (op ∷ [])
          ∙ ap (λ (l : List Operation). c.args.before.now.operations ++ l) (sym grown);
      next = λ rest may.
          may_rest c.loop-op.after c.add.new.self op rest last.0 last.1
          (c.loop-op.invariant.next (op ∷ rest) (subst (MayBeTold c.args.before.now) (ap (λ (l : List Operation). l ++ rest) grown ∙ append_assoc (take i more) (op ∷ []) rest) may));
      horizon = last.0 ∙ c.loop-op.invariant.horizon;
      latest = λ time le all.
          let ends : op.end ≤ time = All-contains (λ (o : Operation). o.end ≤ time) (take i more ++ op ∷ []) op (subst (All (λ (o : Operation). o.end ≤ time)) grown all) (Contains-push (take i more) op) in
          subst (λ n. n ≤ time) (sym last.1) ends;
    }

pub returns-clause-follows : goal.returns-clause-follows
returns-clause-follows c words told follows =
    subst (λ (l : List Operation). Follows words (told ++ l) c.loop-op.after) (take_all c.loop-op.op-index c.args.more.now (omega arith)) (c.loop-op.invariant.follows words told follows)

pub returns-clause-along : goal.returns-clause-along
returns-clause-along c words told along =
    subst (λ (l : List Operation). GoesAlong words (told ++ l) c.loop-op.after) (take_all c.loop-op.op-index c.args.more.now (omega arith)) (c.loop-op.invariant.along words told along)

pub returns-clause-operations : goal.returns-clause-operations
returns-clause-operations c =
    c.loop-op.invariant.operations ∙ ap (λ (l : List Operation). c.args.before.now.operations ++ l) (take_all c.loop-op.op-index c.args.more.now (omega arith))

pub returns-clause-next : goal.returns-clause-next
returns-clause-next c rest may =
    c.loop-op.invariant.next rest (subst (λ (l : List Operation). MayBeTold c.args.before.now (l ++ rest)) (sym (take_all c.loop-op.op-index c.args.more.now (omega arith))) may)

pub returns-clause-latest : goal.returns-clause-latest
returns-clause-latest c time le all =
    c.loop-op.invariant.latest time le (subst (All (λ (o : Operation). o.end ≤ time)) (sym (take_all c.loop-op.op-index c.args.more.now (omega arith))) all)
