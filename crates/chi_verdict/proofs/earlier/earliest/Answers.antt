-- one granule after another
use Rattle.std.proofs.Common.{◌≤◌, ◌<◌, ℕ, List, All, Option, IfSome, filter, sym, subst, arith}
use Rattle.std.specs.Prelude.{IsPermutation}
use Rattle.std.proofs.lemmas.List.Sorted.{All-permutation}
use Rattle.chi_search.proofs.Looking.{looked_none, some_after}
use Rattle.chi_search.specs.Looks.{LookedSome}
use Rattle.chi_trace.specs.declared.operation.Operation.{Operation}
use Rattle.chi_trace.specs.AtPlaces.{is_in}
use Rattle.chi_trace.specs.Explains.{IsOperation}
use Rattle.chi_trace.specs.Words.{word_or_zero}
use Rattle.chi_trace.proofs.Traced.{all_observed}
use Rattle.chi_judge.specs.Reaches.{IsExplained}
use Rattle.chi_judge.proofs.Lists.{IsPermutation-filter}
use Rattle.chi_verdict.specs.declared.first.Failing.{Failing}
use Rattle.chi_verdict.proofs.Apart.{alike}
use Rattle.chi_verdict.proofs.earlier.earliest.Goals as goal
use Rattle.chi_verdict.proofs.earlier.earliest.Goals.{then-granule-next+in_ok-found+in-Some, then-granule-next+in_ok-found+in_default, else-granule-next}

pub loop-op-init : goal.loop-op-init
loop-op-init g c = record { by = omega arith; unexplained = c.requires.unexplained; looked = looked_none g.P.Progress.looked c.args.progress.now }

pub stop_among-requires-clause-observed : goal.stop_among-requires-clause-observed
stop_among-requires-clause-observed g c =
    subst (All IsOperation) (sym c.deref.ensures.value)
    (All-permutation IsOperation c.args.ops.now c.in_ok-sorted.sorted.items c.in_ok-sorted.ensures.moved (all_observed c.args.ops.now c.requires.traced))

pub loop-op-preserved : goal.loop-op-preserved
loop-op-preserved g c =
    let ops = c.args.ops.now in
    let word = λ (n : ℕ). word_or_zero c.args.opening.now n in
    let before = c.loop-op.invariant in
    let By = λ (f : Failing). f.time ≤ c.args.failing.time in
    let Fails = λ (f : Failing). IsExplained f.time ops f.granule (word f.granule) → ⊥ in
    let Looked = λ (p : g.row.P.Denot). LookedSome g.P.Progress.looked c.args.progress.now p in
    elim c.if-granule-next.branch [
      | then-granule-next+in_ok-found+in-Some w ↦
          let n = c.granule-granule.result in
          let earlier = subst (λ (o : Option ℕ). IfSome o (λ t. t < c.loop-op.first.time)) w.in-Some.is w.in_ok-found.ensures.before in
          let none = subst (λ (o : Option ℕ). IfSome o (λ t. IsExplained t w.deref.result.now n (word n) → ⊥)) w.in-Some.is w.in_ok-found.ensures.unexplained in
          let moved = subst (λ (l : List Operation). IsPermutation (filter (is_in n) ops) (filter (is_in n) l)) (sym w.deref.ensures.value)
          (IsPermutation-filter (is_in n) ops c.in_ok-sorted.sorted.items c.in_ok-sorted.ensures.moved) in
          record {
            by = subst By (sym w.first-is) (omega (arith, earlier, before.by));
            unexplained = subst Fails (sym w.first-is)
                (λ explained. none (alike c.granules_stand_alone.ensures w.in-Some.time ops w.deref.result.now n (word n) moved explained));
            looked = subst Looked (sym w.progress-is)
                (some_after g.P.Progress.looked c.args.progress.now c.loop-op.progress w.stop_among.new.progress before.looked w.in_ok-found.ensures.looked);
          }
      | then-granule-next+in_ok-found+in_default w ↦ record {
        by = subst By (sym w.first-is) before.by;
        unexplained = subst Fails (sym w.first-is) before.unexplained;
        looked = subst Looked (sym w.progress-is)
            (some_after g.P.Progress.looked c.args.progress.now c.loop-op.progress w.stop_among.new.progress before.looked w.in_ok-found.ensures.looked);
      }
      | else-granule-next w ↦ record {
        by = subst By (sym w.first-is) before.by;
        unexplained = subst Fails (sym w.first-is) before.unexplained;
        looked = subst Looked (sym w.progress-is) before.looked;
      }
    ]
