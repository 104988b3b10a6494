-- where no slot is ready no event is told, and all that waits is left
use Rattle.std.proofs.Common.{ap, eqb-true, sym, ◌∙◌}
use Rattle.std.proofs.lemmas.List.{nil_from_length}
use Rattle.chi_points.specs.Points.{left_after}
use Rattle.chi_points.proofs.Waiting.{whole_left}
use Rattle.chi_points.proofs.points.Points.tell.Goals as goal

pub returns-then-is_empty-clause-left : goal.returns-then-is_empty-clause-left
returns-then-is_empty-clause-left c =
    let w = c.args.self.now in
    let slots = c.in_ok-ready.ready in
    let none = nil_from_length slots.items (sym slots.ok.0 ∙ eqb-true slots.len 0 (sym c.is_empty.ensures ∙ c.if-is_empty.true)) in
    sym (ap (λ l. left_after l w) (sym c.in_ok-ready.ensures ∙ none) ∙ whole_left w)
