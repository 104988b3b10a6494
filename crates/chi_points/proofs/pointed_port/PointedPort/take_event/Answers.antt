-- what waits is that of all that the port has seen
use Rattle.std.proofs.Common.{sym, ap, ◌∙◌}
use Rattle.chi_points.specs.PointedPort.{told_by_event}
use Rattle.chi_points.proofs.pointed_port.PointedPort.take_event.Goals as goal

pub returns-clause-told : goal.returns-clause-told
returns-clause-told c = λ seen has. c.in_ok-tell_event.ensures.told ∙ ap (λ w. told_by_event w c.args.event.now) (sym has.points)
