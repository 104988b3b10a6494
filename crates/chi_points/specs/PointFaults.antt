-- why a line cannot come next
use Rattle.std.specs.Prelude.{ℕ, Bool, not, ◌&&◌, if◌then◌else◌, nat_lt, Option, None, Some, option_map}
use Rattle.std.specs.Option.{option_or}
use Rattle.chi_events.specs.declared.event.Event.{Event}
use Rattle.chi_events.specs.declared.event.EventKind.{EventKind}
use Rattle.chi_events.specs.declared.event.EventKind.TheVariants.{End}
use Rattle.chi_flits.specs.Answers.{key}
use Rattle.chi_flits.specs.Opcodes.{is_retry, takes_txn}
use Rattle.chi_flits.specs.declared.fault.FlitFault.TheVariants as flit
use Rattle.chi_flits.specs.declared.flit.FlitKind.{FlitKind}
use Rattle.chi_flits.specs.declared.flit.FlitKind.TheVariants as kind
use Rattle.chi_flits.specs.declared.held.Held.{Held}
use Rattle.chi_points.specs.Points.{PointsValue, has_point, missing_point, waits_for_point}
use Rattle.chi_points.specs.declared.fault.PointFault.{PointFault}
use Rattle.chi_points.specs.declared.fault.PointFault.TheVariants as fault

-- the fault where a test holds
abbrev pub fault_if : Bool → PointFault → Option PointFault
fault_if test f = if test then Some f else None

-- of any line
abbrev pub time_fault : PointsValue → ℕ → Option PointFault
time_fault w time = if nat_lt time w.time then Some (fault.Port flit.TimeFalls) else fault_if w.is_ended fault.AfterEnd

-- of a request, by the one that holds its TxnID: that one waits for its point
abbrev pub taken_fault : PointsValue → Option Held → Option PointFault
taken_fault w None = None
taken_fault w (Some h) = fault_if (waits_for_point w h.place) (fault.Port flit.TakesOpen)

-- of a RetryAck: the request has its point
abbrev pub retry_fault : PointsValue → Option Held → Option PointFault
retry_fault w None = None
retry_fault w (Some h) = fault_if (has_point w.slots h.place) fault.RetryLate

-- of a flit, by what its port knows of TxnIDs
abbrev pub kind_fault : PointsValue → (ℕ → Option Held) → FlitKind → Option PointFault
kind_fault w held (kind.Request q) = if takes_txn q.opcode then taken_fault w (held (key q.src q.txn)) else None
kind_fault w held (kind.Response r) = if is_retry r.opcode then retry_fault w (held (key r.tgt r.txn)) else None
kind_fault w held _ = None

-- Of a point: no request has its TxnID, or the one that has it is told, and neither waits for its point nor was it dropped.
abbrev pub place_fault : PointsValue → Option Held → Option PointFault
place_fault w None = Some (fault.Port flit.NotOpen)
place_fault w (Some h) = fault_if (h.is_told && not h.is_dropped && not (waits_for_point w h.place)) (fault.Port flit.NotOpen)

-- of an event of no request: at the end each request that was completed has its point
abbrev pub end_fault : PointsValue → EventKind → Option PointFault
end_fault w End = option_map fault.NoPoint (missing_point w)
end_fault w _ = None

abbrev pub event_fault : PointsValue → Event → Option PointFault
event_fault w e = option_or (time_fault w e.time) (end_fault w e.kind)
