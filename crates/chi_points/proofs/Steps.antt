-- what waits with a flit more, by what its port knows
use Rattle.std.proofs.Common.{◌≡◌, List, sym, ap, ◌∙◌}
use Rattle.chi_events.specs.declared.event.EventKind.{EventKind}
use Rattle.chi_flits.specs.Told.{told_by}
use Rattle.chi_flits.specs.declared.flit.Flit.{Flit}
use Rattle.chi_points.specs.PointedPort.{Seen, with_flit}
use Rattle.chi_points.specs.Points.{PointsValue, with_told}

pub flit_noted : (seen : Seen) (f : Flit) (old new : PointsValue) (kinds : List EventKind) → seen.points ≡ old → kinds ≡ told_by seen.flits f.kind → new ≡ with_told f.time kinds old → new ≡ with_flit seen f
flit_noted seen f old new kinds same told noted =
    noted ∙ ap (λ l. with_told f.time l old) told ∙ ap (λ w. with_told f.time (told_by seen.flits f.kind) w) (sym same)
