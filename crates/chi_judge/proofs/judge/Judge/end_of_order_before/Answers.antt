-- the time before is one less
use Rattle.std.proofs.Common.{◌≡◌, ℕ, ◌-◌, ◌≤◌, List, inl, inr, length, sym, ap, subst, ⊎_elim, arith}
use Rattle.std.proofs.lemmas.Option.{IfSome_then}
use Rattle.std.proofs.lemmas.Result.{IfOk-weaker}
use Rattle.chi_trace.specs.declared.operation.Operation.{Operation}
use Rattle.chi_trace.specs.Cuts.{cut}
use Rattle.chi_search.specs.Frontiers.{FrontierValue}
use Rattle.chi_judge.specs.Judges.{GoesNowhere, IsEndOfSome, JudgeValue}
use Rattle.chi_judge.specs.Reaches.{EndAnOrder}
use Rattle.chi_judge.specs.Searches.{IsSeen}
use Rattle.chi_judge.proofs.Ending.{ends_by, within_most}
use Rattle.chi_judge.proofs.More.{told_kept}
use Rattle.chi_judge.proofs.Reached.{unexplained_by}
use Rattle.chi_judge.proofs.judge.Judge.end_of_order_before.Goals as goal

pub returns-clause-order : goal.returns-clause-order
returns-clause-order g c = IfOk-weaker c.end_of_order_by.result _ _
    (λ found some. IfSome_then found some (λ last is earlier next trace n w judged seen.
    let r = c.args.self.now in
    let before : c.self.inside.before ≡ r.before = ap (λ (v : JudgeValue). v.before) c.self.view_is in
    let same : c.args.time - 1 ≡ earlier = omega (arith, next) in
    let own : IsEndOfSome r.before (cut (c.args.time - 1) r.kept) c.self.inside.shown last.items =
    subst (λ (f : FrontierValue). IsEndOfSome f (cut (c.args.time - 1) r.kept) c.self.inside.shown last.items) before
    (subst (λ (ops : List Operation). IsEndOfSome c.self.inside.before (cut (c.args.time - 1) ops) c.self.inside.shown last.items) c.requires.kept is) in
    subst (λ (t : ℕ). EndAnOrder (cut t trace) n w last.items) same
    (ends_by trace n w r judged (c.args.time - 1) (subst (IsSeen r) (sym same) seen) c.self.inside.shown last.items own)))
    c.end_of_order_by.ensures.last

pub returns-clause-within : goal.returns-clause-within
returns-clause-within g c = IfOk-weaker c.end_of_order_by.result _ _
    (λ found some. IfSome_then found some (λ last is.
    subst (λ n. length last.items ≤ n) (ap (λ (v : JudgeValue). v.shown) c.self.view_is)
    (within_most c.self.inside.before (cut (c.args.time - 1) c.args.ops.now) c.self.inside.shown last.items is)))
    c.end_of_order_by.ensures.last

pub returns-clause-other : goal.returns-clause-other
returns-clause-other g c = IfOk-weaker c.end_of_order_by.result _ _
    (λ found said none trace n w judged. (
      c.args.time - 1,
      omega arith,
      λ seen. ⊎_elim
          (λ nowhere. inl (unexplained_by c.granules_stand_alone.ensures trace n w c.args.self.now judged (c.args.time - 1) seen
          (subst (λ (f : FrontierValue). GoesNowhere f (cut (c.args.time - 1) c.args.self.now.kept)) (ap (λ (v : JudgeValue). v.before) c.self.view_is)
          (subst (λ (ops : List Operation). GoesNowhere c.self.inside.before (cut (c.args.time - 1) ops)) c.requires.kept nowhere))))
          (λ spent. inr (c.args.budget, omega arith, told_kept c.self.inside.before c.args.ops.now c.args.self.now (ap (λ (v : JudgeValue). v.before) c.self.view_is) c.requires.kept spent trace n w judged))
          (said none),
    ))
    c.end_of_order_by.ensures.none
