-- one search more, where it can be told them
use Rattle.std.proofs.Common.{ℕ, ◌++◌, List, All, IfSome, Option, sym, ap, subst, ◌∙◌, arith}
use Rattle.std.proofs.lemmas.List.Elements.{All-push}
use Rattle.chi_trace.specs.declared.operation.Operation.{Operation}
use Rattle.chi_search.specs.Frontiers.{FrontierValue, GoesAlong}
use Rattle.chi_judge.proofs.ahead.each_told.Goals as goal
use Rattle.chi_judge.proofs.ahead.each_told.Goals.{in-Some+in_ok-push, in_default}

pub loop-search-preserved : goal.loop-search-preserved
loop-search-preserved c = record {
  along = λ words told all.
      let P : FrontierValue → Type 0 = GoesAlong words (told ++ c.args.more.now) in
      let before = c.loop-search.invariant.along words told all in
      elim c.match-branch-2.branch [
        | in-Some+in_ok-push w ↦
            let goes = subst (λ (o : Option FrontierValue). IfSome o (λ f. (words : List ℕ) (told : List Operation) → GoesAlong words told c.search-item.result → GoesAlong words (told ++ c.args.more.now) f)) w.in-Some.is c.in_ok-next.ensures.along in
            let first : GoesAlong words told c.search-item.result = subst (GoesAlong words told) (sym c.search-item.is) (all c.loop-search.search-index c.search-item.result (omega arith)) in
            subst (All P) (sym (ap (λ (e : _). e.items) w.each-is ∙ w.in_ok-push.ensures.items)) (All-push P c.loop-search.each.items _ before (goes words told first))
        | in_default w ↦ subst (All P) (sym (ap (λ (e : _). e.items) w.each-is)) before
      ];
}
