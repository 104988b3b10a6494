-- the trace of the outline
use Rattle.std.proofs.Common.{◌≡◌, rules, Bool, true, false, not, refl, true≢false, ap, sym, ◌∙◌}
use Rattle.serde_json.proofs.Views.{view-Object}
use Rattle.chi_fields.specs.Extent.{Extent}
use Rattle.chi_reading.specs.TraceText.{memory_text}
use Rattle.chi_reading.proofs.Outlines.{outline_text, same_option}
use Rattle.chi_reading.proofs.usual_trace.usual_trace.Goals as goal

turned : (b : Bool) → not b ≡ false → b ≡ true
turned true is = refl
turned false is = absurd (true≢false is)

pub returns-in-Ok-in_order : goal.returns-in-Ok-in_order
returns-in-Ok-in_order c =
    let outlined = c.in_ok-outline.ensures in
    let memory = c.in-Ok.ensures.ok in
    let outline = c.in_ok-outline.outline in
    let listed = c.in_ok-listed.listed in
    let says = ap memory_text (sym (view-Object outline.members)) ∙ memory.1 in
    let same : memory.0.region ≡ listed.region = sym memory.2.region ∙ same_option _ (λ (x y : Extent) is. search rules) _ _ (turned _ (sym c.ne.ensures ∙ c.if-ne.false)) in
    (_, outline_text c.args.text.now outlined.0 outline listed memory.0 outlined.2 c.in_ok-listed.was outlined.1 says same, c.in-Ok-in_order.ensures memory.0 memory.2)
