-- what was noted is told as far as it can be
use Rattle.std.proofs.Common.{sym, ap, ◌∙◌}
use Rattle.chi_points.specs.Points.{left, told_now}
use Rattle.chi_points.proofs.Steps.{flit_noted}
use Rattle.chi_points.proofs.pointed_port.PointedPort.take_flit.Goals as goal

pub returns-clause-seen : goal.returns-clause-seen
returns-clause-seen c = λ seen has. record {
  flits = c.in-Ok.ensures.seen seen.flits has.flits;
  points =
      sym
      (c.in_ok-tell.ensures.left
      ∙ ap left (flit_noted seen c.args.flit.now c.args.self.now.points c.note_told.new.self c.deref.result.now has.points (c.deref.ensures.value ∙ c.in-Ok.ensures.told seen.flits has.flits) c.in_ok-note_told.ensures));
}

pub returns-clause-told : goal.returns-clause-told
returns-clause-told c = λ seen has.
    c.in_ok-tell.ensures.told
    ∙ ap told_now (flit_noted seen c.args.flit.now c.args.self.now.points c.note_told.new.self c.deref.result.now has.points (c.deref.ensures.value ∙ c.in-Ok.ensures.told seen.flits has.flits) c.in_ok-note_told.ensures)
