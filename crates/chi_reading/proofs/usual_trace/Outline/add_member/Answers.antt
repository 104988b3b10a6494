-- a member that is no list of requests
use Rattle.std.proofs.Common.{◌<◌, arith, ◌≢◌, ap, bytes_eq, true≢false, refl, sym, ◌∙◌}
use Rattle.std.proofs.lemmas.Slice.Eq.{bytes_eq-Decides}
use Rattle.serde_json.specs.View.{view}
use Rattle.chi_reading.specs.declared.member.Member.TheVariants as member
use Rattle.chi_reading.specs.Member.{member_name}
use Rattle.chi_reading.proofs.Outlines.{other_outlined}
use Rattle.chi_reading.proofs.usual_trace.Outline.add_member.Goals as goal

pub returns-in-Ok-clause-outline : goal.returns-in-Ok-clause-outline
returns-in-Ok-clause-outline c done all is =
    let name = c.args.name.now in
    let value = view c.in-Some.value in
    let may = sym c.is_known.ensures ∙ c.if-not-is_known.false in
    let apart : name ≢ member_name member.Requests = λ same. true≢false (sym ((bytes_eq-Decides name (member_name member.Requests)).1 same) ∙ (ap (bytes_eq name) (sym c.name.ensures) ∙ (sym c.eq.ensures ∙ c.if-eq.false))) in
    let deep : 1 < 126 = omega arith in
    (value, c.in-Some.ensures.value 126 deep, other_outlined all c.args.self.now _ is name value may apart c.in-Ok.ensures.ok refl)
