-- The judge looked, and then was told one operation more, as far as it had happened.
use Rattle.std.proofs.Common.{◌∙◌, ◌≡◌, ◌≤◌, ◌⊎◌, ◌++◌, ◌+◌, ◌^◌, List, [], ◌∷◌, Some, arith, ap, inl, inr, subst, sym}
use Rattle.std.specs.Prelude.{option_to_list}
use Rattle.chi_fields.specs.Access.{Access}
use Rattle.chi_trace.specs.declared.operation.Operation.{Operation}
use Rattle.chi_judge.specs.Judges.{CanBeKept, Keeps}
use Rattle.chi_judge.specs.Until.{until}
use Rattle.chi_watch.proofs.JudgedParts.{heard_is}
use Rattle.chi_watch.proofs.telling.add_heard.Goals as goal

pub returns-in_ok-add-clause-heard : goal.returns-in_ok-add-clause-heard
returns-in_ok-add-clause-heard g c can =
    let op = c.args.op.now in
    let old = c.args.judge.now in
    let heard = c.in-Some.heard in
    let parts : option_to_list (Some heard) ≡ until c.args.since (op ∷ []) = ap option_to_list (sym c.in-Some.is) ∙ c.happened_until.ensures in
    let is = heard_is c.args.since op heard parts in
    let settled = c.in_ok-settle.ensures.horizon in
    let later : c.settle.new.self.horizon ≤ heard.start = elim settled [
      | inl below ↦ omega (arith, below, can.starts, is.start)
      | inr same ↦ omega (arith, same, can.past, is.start)
    ] in
    let kept : CanBeKept c.settle.new.self heard = record {
      ends = omega (arith, c.in_ok-settle.ensures.latest, can.ends, is.end);
      starts = later;
      lasting = omega (arith, can.lasting, is.start, is.end);
      within = subst (λ (a : Access). a.addr + a.len ≤ 2 ^ 52) (sym is.access) can.within;
    } in
    let taken = c.in_ok-add.ensures.taken.1 kept in
    record {
      keeps = λ words told keeps.
          subst (λ (l : List Operation). Keeps words (told ++ l) op.end c.add.new.self) parts
          (subst (λ n. Keeps words (told ++ heard ∷ []) n c.add.new.self) is.end
          (c.in_ok-add.ensures.keeps taken words told op.end (omega (arith, is.end))
          (c.in_ok-settle.ensures.keeps words told op.end (omega (arith, can.starts, can.lasting)) keeps)));
      horizon_is = subst (λ n. (n ≤ c.args.horizon) ⊎ (n ≡ old.horizon)) (sym c.in_ok-add.ensures.horizon) settled;
      latest = subst (λ n. c.add.new.self.latest ≤ n) is.end (c.in_ok-add.ensures.latest taken);
      shown = c.in_ok-add.ensures.shown ∙ c.in_ok-settle.ensures.shown;
    }
