-- one granule after another, each at an earlier time
use Rattle.std.proofs.Common.{◌+◌, ◌≤◌, subst, arith}
use Rattle.chi_judge.specs.Reaches.{IsExplained}
use Rattle.chi_search.proofs.Looking.{looked_none, some_after}
use Rattle.chi_trace.specs.Traces.{TraceValue}
use Rattle.chi_trace.specs.Words.{word_or_zero}
use Rattle.chi_verdict.specs.declared.first.Back.{Back}
use Rattle.chi_verdict.specs.Backwards.{IfAnswer, IfEarlier}
use Rattle.chi_verdict.specs.Blames.{LookedForFirst}
use Rattle.chi_verdict.proofs.Spent.{first_after}
use Rattle.chi_verdict.proofs.first.first_before.Goals as goal

pub loop-first-init : goal.loop-first-init
loop-first-init g c = record { unexplained = c.requires.unexplained; looked = looked_none g.P.Progress.looked c.args.progress.now }

pub earliest-requires-clause-unexplained : goal.earliest-requires-clause-unexplained
earliest-requires-clause-unexplained g c =
    subst (λ (b : Back). IfEarlier b (λ earlier. IsExplained earlier.time c.args.ops.now earlier.granule (word_or_zero c.args.opening.now earlier.granule) → ⊥))
    c.in-Earlier.is c.in_ok-first.ensures.earlier

pub loop-first-smaller : goal.loop-first-smaller
loop-first-smaller g c =
    let later = subst (λ (b : Back). IfEarlier b (λ earlier. earlier.time + 1 ≤ c.loop-first.failing.time)) c.in-Earlier.is c.in_ok-first.ensures.later in
    let by = c.in_ok-failing-in-Earlier.ensures.by in
    omega (arith, later, by)

pub loop-first-preserved : goal.loop-first-preserved
loop-first-preserved g c = record {
  unexplained = c.in_ok-failing-in-Earlier.ensures.unexplained;
  looked = some_after g.P.Progress.looked c.args.progress.now c.look_back.new.progress c.earliest.new.progress
      (some_after g.P.Progress.looked c.args.progress.now c.loop-first.progress c.look_back.new.progress c.loop-first.invariant.looked c.in_ok-first.ensures.looked)
      c.in_ok-failing-in-Earlier.ensures.looked;
}

pub returns-in-Answer-clause-spent : goal.returns-in-Answer-clause-spent
returns-in-Answer-clause-spent g c =
    let t : TraceValue = record { opening = c.args.opening.now; operations = c.args.ops.now } in
    first_after g.P.Progress.looked c.args.progress.now c.loop-first.progress c.look_back.new.progress c.args.budget t c.in-Answer.first c.loop-first.invariant.looked
    (subst (λ (b : Back). IfAnswer b (LookedForFirst g.P.Progress.looked c.loop-first.progress c.look_back.new.progress c.args.budget t)) c.in-Answer.is c.in_ok-first.ensures.spent)
