-- lines whose flit is not legal at the port
use Rattle.std.specs.Prelude.{ℕ, Bool, true, false, if◌then◌else◌, List, [], codes}
use Rattle.chi_flits.specs.declared.fault.FlitFault.{FlitFault}
use Rattle.chi_flits.specs.declared.fault.FlitFault.TheVariants as flit
use Rattle.chi_points.specs.declared.fault.PointFault.{PointFault}
use Rattle.chi_points.specs.declared.fault.PointFault.TheVariants as point
use Rattle.chi_watch_text.specs.declared.fault.LinesFault.{LinesFault}
use Rattle.chi_watch_text.specs.declared.fault.LinesFault.TheVariants as lines
use Rattle.chi_watch_text.specs.declared.fault.TellingFault.{TellingFault}
use Rattle.chi_watch_text.specs.declared.fault.TellingFault.TheVariants as fault

-- A flit that no requester and no home send then. Where the order of the lines is at fault, or something is not known, it may be one.
abbrev pub is_illegal_flit : FlitFault → Bool
is_illegal_flit flit.TimeFalls = false
is_illegal_flit flit.UnknownLane = false
is_illegal_flit flit.UnknownEnable = false
is_illegal_flit flit.UnknownSent = false
is_illegal_flit flit.TooMany = false
is_illegal_flit flit.Memory = false
is_illegal_flit _ = true

-- the same where requests have points
abbrev pub is_illegal_pointed : PointFault → Bool
is_illegal_pointed (point.Port f) = is_illegal_flit f
is_illegal_pointed point.AfterEnd = false
is_illegal_pointed point.Memory = false
is_illegal_pointed _ = true

abbrev pub is_illegal_line : TellingFault → Bool
is_illegal_line (fault.Port f) = is_illegal_flit f
is_illegal_line (fault.Points f) = is_illegal_pointed f
is_illegal_line _ = false

abbrev pub is_illegal : LinesFault → Bool
is_illegal (lines.Line number f) = is_illegal_line f
is_illegal _ = false

-- how the text of a fault of a line begins
abbrev pub begin_of : TellingFault → List ℕ
begin_of f = if is_illegal_line f then codes "not legal at the port: " else []
