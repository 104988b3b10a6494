-- the text's value
use Rattle.std.proofs.Common.{ap, sym, ◌∙◌}
use Rattle.std.specs.Result.{result_map_both}
use Rattle.serde_json.specs.View.{items_view, view}
use Rattle.chi_json.proofs.WalkLemmas.{no_fault}
use Rattle.chi_reading.proofs.ObjectText.{object_says}
use Rattle.chi_reading.proofs.trace.object_trace.Goals as goal

pub returns-clause-ok : goal.returns-clause-ok
returns-clause-ok c =
    let memory = c.in_ok-memory.ensures.ok in
    let listed = sym c.requests_listed.ensures ∙ ap (result_map_both (λ list. items_view list.now) (λ fault. fault)) (no_fault _ _ _ c.in_ok-list.ensures) in
    let known = sym c.unknown_member.ensures ∙ c.in_default.is in
    let completed = rw memory.2.region at c.in_ok-found.ensures.ok in (
      _,
      object_says (view c.args.object.now) _ _ memory.0 _ memory.1 listed known completed,
      c.in_ok-recorded.ensures memory.0 memory.2,
    )
