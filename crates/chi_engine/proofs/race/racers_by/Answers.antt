-- one racer more has no line
use Rattle.std.proofs.Common.{◌≡◌, [], ◌∷◌, ap, ◌∙◌, arith}
use Rattle.std.proofs.lemmas.Grind.{common_steps}
use Rattle.std.proofs.lemmas.List.Elements.{All-append, All-cons, All-nil}
use Rattle.chi_requester.specs.declared.race_of_any.Racer.{Racer}
use Rattle.chi_engine.proofs.race.racers_by.Goals as goal

pub loop-preserved : goal.loop-preserved
loop-preserved g c =
    let empty = ap (λ v. v.items) c.new-in-loop.ensures ∙ c.new.ensures.items in
    record {
      none = rw c.in_ok-push.ensures.items (All-append (λ (racer : Racer _ _ _). racer.lines.items ≡ []) c.loop.racers.items (c.new-in-loop.result ∷ []) c.loop.invariant.none
          (All-cons (λ (racer : Racer _ _ _). racer.lines.items ≡ []) c.new-in-loop.result [] empty (All-nil (λ (racer : Racer _ _ _). racer.lines.items ≡ []))));
      count = rw c.in_ok-push.ensures.items (grind (arith, common_steps, c.loop.invariant.count));
    }
