-- one more is looked at
use Rattle.std.proofs.Common.{◌≤◌, ℕ, All, List, [], ◌∷◌, take, get_or, sym, subst, arith}
use Rattle.std.proofs.lemmas.List.{take_all, take_more}
use Rattle.std.proofs.lemmas.List.Elements.{All-append, All-cons, All-nil}
use Rattle.chi_events.specs.declared.starts.Start.{Start}
use Rattle.chi_events.proofs.starts.least_time.Goals as goal

pub loop-start-preserved : goal.loop-start-preserved
loop-start-preserved c =
    let starts : List Start = c.args.starts.now in
    let i : ℕ = c.loop-start.start-index in
    let here : Start = get_or starts i (record { id = 0; time = 0 }) in
    let least = c.min-least.ensures in
    record {
      time = omega (arith, least, c.loop-start.invariant.time);
      starts = subst (All (λ (start : Start). c.min-least.result ≤ start.time)) (sym (take_more starts i _ c.loop-start-test.true))
          (All-append (λ (start : Start). c.min-least.result ≤ start.time) (take i starts) (here ∷ []) (λ k d below. let before = c.loop-start.invariant.starts k d below in omega (arith, least, before))
          (All-cons (λ (start : Start). c.min-least.result ≤ start.time) here [] (omega (arith, least)) (All-nil (λ (start : Start). c.min-least.result ≤ start.time))));
    }

pub returns-clause-starts : goal.returns-clause-starts
returns-clause-starts c =
    subst (All (λ (start : Start). c.loop-start.least ≤ start.time)) (take_all c.loop-start.start-index c.args.starts.now c.loop-start-test.false) c.loop-start.invariant.starts
