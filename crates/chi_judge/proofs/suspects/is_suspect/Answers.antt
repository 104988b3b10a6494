-- without its answer the search goes nowhere, or the budget was spent
use Rattle.std.proofs.Common.{◌≡◌, Bool, false, IfOk, sym, subst, arith, true≢false}
use Rattle.std.specs.Prelude.{All, None}
use Rattle.chi_search.specs.declared.order.Found.{Found}
use Rattle.chi_search.specs.Found.{IfNothing, IfUndecided}
use Rattle.chi_search.specs.Frontiers.{MayBeTold}
use Rattle.chi_search.specs.Looks.{LookedAtLeast, LookedMore}
use Rattle.chi_judge.specs.Judges.{LiesWithin}
use Rattle.chi_judge.specs.Legal.{LeadsNowhereWith, MayBeSuspectAt}
use Rattle.chi_judge.proofs.suspects.is_suspect.Goals as goal
use Rattle.chi_judge.proofs.suspects.is_suspect.Goals.{in-Nothing, in-Order, in-Undecided}

pub returns-clause-other : goal.returns-clause-other
returns-clause-other g c =
    let f = c.args.before.now in
    let ops = c.args.ops.now in
    let P : Bool → Type 0 = λ is. is ≡ false → MayBeSuspectAt f ops c.args.time c.args.place → LookedAtLeast g.P.Progress.looked c.args.progress.now c.order_with.new.progress c.args.budget in
    elim c.match-branch-2.branch [
      | in-Order m ↦ subst (λ (o : _). IfOk o P) (sym m.result-is) (λ so. absurd (true≢false so))
      | in-Nothing m ↦
          let none = subst (λ (found : Found). IfNothing found (LeadsNowhereWith f ops c.args.time c.args.place None)) m.in-Nothing.is c.in_ok-order_with.ensures.nothing in
          subst (λ (o : _). IfOk o P) (sym m.result-is) (λ so may. absurd (may.leads none))
      | in-Undecided m ↦
          let said = subst (λ (found : Found). IfUndecided found (MayBeTold f ops → All LiesWithin ops → LookedMore g.P.Progress.looked c.args.progress.now c.order_with.new.progress c.args.budget)) m.in-Undecided.is c.in_ok-order_with.ensures.undecided in
          subst (λ (o : _). IfOk o P) (sym m.result-is) (λ so may. (c.args.budget, omega arith, said may.may may.within))
    ]
