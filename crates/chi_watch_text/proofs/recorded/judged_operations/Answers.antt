-- one operation more, as far as it is judged
use Rattle.std.proofs.Common.{◌≡◌, ◌++◌, ◌+◌, ◌∷◌, [], List, Option, ℕ, append-nil, flat_map, take, ap, ap₂, sym, ◌∙◌}
use Rattle.std.specs.Prelude.{option_to_list}
use Rattle.std.proofs.lemmas.List.{take_more}
use Rattle.std.proofs.lemmas.List.Concat.{flat_map-append}
use Rattle.chi_judge.specs.Until.{until}
use Rattle.chi_trace.specs.declared.operation.Operation.{Operation}
use Rattle.chi_watch.specs.Judged.{judged_part, unknown_at}
use Rattle.chi_watch_text.proofs.recorded.judged_operations.Goals as goal

pub loop-op-preserved : goal.loop-op-preserved
loop-op-preserved c events has =
    let op = c.op-item.result in
    let before = take c.loop-op.op-index c.args.ops.now in
    let next : take (c.loop-op.op-index + 1) c.args.ops.now ≡ before ++ op ∷ [] =
    take_more c.args.ops.now c.loop-op.op-index op c.loop-op-test.true ∙ ap (λ (x : Operation). before ++ x ∷ []) (sym c.op-item.is) in
    let part : option_to_list c.happened_until-part.result ≡ flat_map (judged_part events) (op ∷ []) =
    c.happened_until-part.ensures
    ∙ (ap (λ (u : Option ℕ). until u (op ∷ [])) (c.unknown_at.ensures events has ∙ ap (λ (g : ℕ). unknown_at events g op.start) c.granule.ensures) ∙ sym (append-nil (judged_part events op))) in
    c.in_ok-add_some.ensures
    ∙ (ap₂ (λ (a b : List Operation). a ++ b) (c.loop-op.invariant events has) part
    ∙ (sym (flat_map-append (judged_part events) before (op ∷ [])) ∙ ap (flat_map (judged_part events)) (sym next)))
