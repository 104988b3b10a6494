-- where there is a write the judge takes it
use Rattle.std.proofs.Common.{◌≡◌, ℕ, ◌≤◌, ◌++◌, List, [], ◌∷◌, None, Option, Some, IfSome, append-nil, arith, refl, subst, sym, ◌∙◌}
use Rattle.std.specs.Prelude.{option_to_list}
use Rattle.chi_trace.specs.declared.operation.Operation.{Operation}
use Rattle.chi_judge.specs.Judges.{CanBeKept, Keeps}
use Rattle.chi_judge.proofs.Keeping.{keeps_later}
use Rattle.chi_watch.specs.WordsTold.{write_at}
use Rattle.chi_watch.proofs.Writes.{IsWriteOf, written}
use Rattle.chi_watch.proofs.telling.add_write.Goals as goal

pub returns-in_ok-add : goal.returns-in_ok-add
returns-in_ok-add c =
    let time = c.args.time in
    let old = c.args.judge.now in
    let new = c.add.new.self in
    let write = c.in-Some.write in
    let one : write_at time c.args.told.now ≡ Some write = sym c.write_at.ensures ∙ c.in-Some.is in
    let facts : IsWriteOf time c.args.told.now.granule write = subst (λ (o : Option Operation). IfSome o (IsWriteOf time c.args.told.now.granule)) one (written time c.args.told.now) in
    let can : old.latest ≤ time → old.horizon ≤ time → CanBeKept old write =
    λ latest horizon. record { ends = omega (arith, latest, facts.end); starts = omega (arith, horizon, facts.start); lasting = facts.is.lasting; within = facts.is.within } in
    record {
      keeps = λ words told now early latest horizon keeps.
          subst (λ (o : Option Operation). Keeps words (told ++ option_to_list o) time new) (sym one)
          (subst (λ (n : ℕ). Keeps words (told ++ write ∷ []) n new) facts.end
          (c.in_ok-add.ensures.keeps (c.in_ok-add.ensures.taken.1 (can latest horizon)) words told now (omega (arith, early, facts.end)) keeps));
      latest = λ latest horizon. subst (λ (n : ℕ). new.latest ≤ n) facts.end (c.in_ok-add.ensures.latest (c.in_ok-add.ensures.taken.1 (can latest horizon)));
      horizon = c.in_ok-add.ensures.horizon;
      shown = c.in_ok-add.ensures.shown;
    }

pub returns-in_default : goal.returns-in_default
returns-in_default c =
    let time = c.args.time in
    let old = c.args.judge.now in
    let none : write_at time c.args.told.now ≡ None = sym c.write_at.ensures ∙ c.in_default.is in
    record {
      keeps = λ words told now early latest horizon keeps.
          subst (λ (o : Option Operation). Keeps words (told ++ option_to_list o) time old) (sym none)
          (subst (λ (l : List Operation). Keeps words l time old) (sym (append-nil told)) (keeps_later words told now old keeps time early));
      latest = λ latest horizon. latest;
      horizon = refl;
      shown = refl;
    }
