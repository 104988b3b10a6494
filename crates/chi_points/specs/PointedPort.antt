-- what lines tell at a port whose requests have points
use Rattle.std.specs.Prelude.{◌≡◌, ℕ, if◌then◌else◌, List, [], ◌∷◌, Option, None, Some, option_map}
use Rattle.std.specs.Option.{option_or}
use Rattle.chi_events.specs.Ended.{is_end}
use Rattle.chi_events.specs.declared.event.Event.{Event}
use Rattle.chi_flits.specs.Answers.{key}
use Rattle.chi_flits.specs.Effects.{HasSeen}
use Rattle.chi_flits.specs.Faults.{fault_by}
use Rattle.chi_flits.specs.Held.{held_of}
use Rattle.chi_flits.specs.History.{transaction}
use Rattle.chi_flits.specs.Told.{told_by}
use Rattle.chi_flits.specs.declared.flit.Flit.{Flit}
use Rattle.chi_flits.specs.declared.held.Held.{Held}
use Rattle.chi_points.specs.PointFaults.{kind_fault, place_fault, time_fault}
use Rattle.chi_points.specs.Points.{PointsValue, ended, left, nothing_waits, told_at_end, told_now, with_event, with_point, with_told}
use Rattle.chi_points.specs.declared.fault.PointFault.{PointFault}
use Rattle.chi_points.specs.declared.fault.PointFault.TheVariants as fault
use Rattle.chi_points.specs.declared.point.Point.{Point}
use Rattle.chi_points.specs.declared.pointed_port.PointedPort.{PointedPort}

-- what was seen: the flits, of which the newest stands first, and what waits to be told
pub record Seen : Type 0 where
  pub flits : List Flit
  pub points : PointsValue

abbrev pub nothing_seen : Seen
nothing_seen = record { flits = []; points = nothing_waits }

-- a port that has seen it
pub record Follows (seen : Seen) (p : PointedPort) : Type 0 where
  pub flits : HasSeen seen.flits p.port
  pub points : seen.points ≡ p.points

-- the request that holds a TxnID
abbrev pub held_by : List Flit → ℕ → Option Held
held_by flits k = option_map held_of (transaction k flits)

-- ---- a flit

-- why it cannot come next, if it cannot
abbrev pub flit_fault : Seen → Flit → Option PointFault
flit_fault seen f =
    option_or (time_fault seen.points f.time) (option_or (kind_fault seen.points (held_by seen.flits) f.kind) (option_map fault.Port (fault_by seen.flits f)))

-- what waits with what it tells
abbrev pub with_flit : Seen → Flit → PointsValue
with_flit seen f = with_told f.time (told_by seen.flits f.kind) seen.points

abbrev pub after_flit : Seen → Flit → Seen
after_flit seen f = record { flits = f ∷ seen.flits; points = left (with_flit seen f) }

abbrev pub told_by_flit : Seen → Flit → List Event
told_by_flit seen f = told_now (with_flit seen f)

-- ---- a point

abbrev pub point_fault : Seen → Point → Option PointFault
point_fault seen p = option_or (time_fault seen.points p.time) (place_fault seen.points (held_by seen.flits (key p.src p.txn)))

-- what waits with it
abbrev pub with_held : PointsValue → ℕ → Option Held → PointsValue
with_held w time None = w
with_held w time (Some h) = with_point time h.place w

abbrev pub with_pointed : Seen → Point → PointsValue
with_pointed seen p = with_held seen.points p.time (held_by seen.flits (key p.src p.txn))

abbrev pub after_point : Seen → Point → Seen
after_point seen p = record { flits = seen.flits; points = left (with_pointed seen p) }

abbrev pub told_by_point : Seen → Point → List Event
told_by_point seen p = told_now (with_pointed seen p)

-- ---- an event of no request

abbrev pub points_after : PointsValue → Event → PointsValue
points_after w e = if is_end e then ended e else left (with_event e w)

abbrev pub after_event : Seen → Event → Seen
after_event seen e = record { flits = seen.flits; points = points_after seen.points e }

abbrev pub told_by_event : PointsValue → Event → List Event
told_by_event w e = if is_end e then told_at_end e w else told_now (with_event e w)
