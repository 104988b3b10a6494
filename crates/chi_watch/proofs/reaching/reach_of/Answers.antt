-- what is known once the progress is told that the search for the next verdict begins
use Rattle.std.proofs.Common.{ℕ, Option, None, Some}
use Rattle.chi_judge.specs.Reaches.{IfUndecided}
use Rattle.chi_judge.specs.declared.reach.Reach.{Reach}
use Rattle.chi_search.proofs.Growing.{grew_cut, grew_over, grew_uncut}
use Rattle.chi_search.specs.Looks.{IsCutShort, LookedAtLeast, LookedSome, Search, after_verdict, for_verdict}
use Rattle.chi_watch.specs.Reaching.{IsReachedBy}
use Rattle.chi_watch.proofs.Reached.{undecided_weaker}
use Rattle.chi_watch.proofs.reaching.reach_of.Goals as goal

reached_by : {P : Type 0} (states : P → ℕ → Type 0) (looked : Search → P → ℕ → Type 0) (old begun ended new : P) → ((n : ℕ) → looked for_verdict old n → looked (after_verdict n) begun n)
    → ((n : ℕ) → states ended n → looked for_verdict new n) → (budget : ℕ) (reach : Reach) (cut_short : Option ℕ) → IsCutShort states looked ended cut_short
    → LookedSome looked begun ended → IfUndecided reach (LookedAtLeast looked begun ended budget) → IsReachedBy (looked for_verdict) old new budget reach cut_short
reached_by states looked old begun ended new ends begins budget reach None told some whole = undecided_weaker reach (grew_uncut states looked old begun ended new ends begins budget told) whole
reached_by states looked old begun ended new ends begins budget reach (Some most) told some whole = grew_cut states looked old begun ended new ends begins most told some

pub returns-clause-undecided : goal.returns-clause-undecided
returns-clause-undecided g c trace =
    reached_by g.P.Progress.states g.P.Progress.looked c.args.progress.now c.after_verdict.new.self c.reach-reach.new.progress c.before_verdict.new.self c.after_verdict.ensures c.before_verdict.ensures
    c.args.budget c.in_ok-reach.field-0 c.cut_short-cut_short.result c.cut_short-cut_short.ensures c.in_ok-reach.ensures.looked
    (undecided_weaker c.in_ok-reach.field-0 (λ whole. whole trace) c.in_ok-reach.ensures.undecided)

pub returns-clause-looked : goal.returns-clause-looked
returns-clause-looked g c =
    grew_over g.P.Progress.states g.P.Progress.looked c.args.progress.now c.after_verdict.new.self c.reach-reach.new.progress c.before_verdict.new.self c.after_verdict.ensures c.before_verdict.ensures
    c.cut_short-cut_short.result c.cut_short-cut_short.ensures c.in_ok-reach.ensures.looked
