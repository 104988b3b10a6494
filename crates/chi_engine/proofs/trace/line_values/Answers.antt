-- one line more
use Rattle.std.proofs.Common.{sym, ap, ◌∙◌}
use Rattle.std.specs.Prelude.{option_map}
use Rattle.serde_json.specs.View.{view}
use Rattle.chi_engine.proofs.TraceLemmas.{all_told, told_none, told_some}
use Rattle.chi_engine.proofs.trace.line_values.Goals as goal
use Rattle.chi_engine.proofs.trace.line_values.Goals.{in-Some+in_ok-push, in_default}

pub loop-place-preserved : goal.loop-place-preserved
loop-place-preserved c =
    let values = c.loop-place.values.items in
    let lines = c.args.lines.now in
    elim c.match-request.branch [
      | in-Some+in_ok-push w ↦ rw (w.values-is, w.in_ok-push.ensures.items)
          (told_some values c.loop-place.place lines _ w.in-Some.value c.loop-place-test.true (ap (option_map view) (sym w.in-Some.is) ∙ c.in_ok-request.ensures) c.loop-place.invariant)
      | in_default w ↦ rw w.values-is
          (told_none values c.loop-place.place lines _ c.loop-place-test.true (ap (option_map view) (sym w.in_default.is) ∙ c.in_ok-request.ensures) c.loop-place.invariant)
    ]

pub returns : goal.returns
returns c = all_told c.loop-place.values.items c.loop-place.place c.args.lines.now c.loop-place-test.false c.loop-place.invariant
