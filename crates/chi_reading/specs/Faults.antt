-- the faults of a trace, and of a line of events
use Rattle.std.specs.Prelude.{Option, None, Some, Result, Ok, Err}
use Rattle.serde_json.specs.Data.{Data}
use Rattle.chi_json.specs.Faults.{of_member}
use Rattle.chi_json.specs.declared.member.MemberFault.{MemberFault}
use Rattle.chi_json.specs.declared.member.MemberFault.TheVariants as member_fault
use Rattle.chi_reading.specs.declared.member.Member.{Member}
use Rattle.chi_reading.specs.Member.{member_name}
use Rattle.chi_reading.specs.declared.fault.LineFault.{LineFault}
use Rattle.chi_reading.specs.declared.fault.LineFault.TheVariants as line_fault
use Rattle.chi_reading.specs.declared.fault.RequestFault.{RequestFault}
use Rattle.chi_reading.specs.declared.fault.RequestFault.TheVariants as request_fault
use Rattle.chi_reading.specs.declared.fault.TraceFault.{TraceFault}
use Rattle.chi_reading.specs.declared.fault.TraceFault.TheVariants.{Object, Memory}

-- a fault of a member of an object, as the trace's
abbrev pub of_trace : Data → MemberFault Member → TraceFault
of_trace d member_fault.Memory = Memory
of_trace d fault = Object (of_member member_name d fault)

-- the same, as a line's
abbrev pub of_line : Data → MemberFault Member → LineFault
of_line d member_fault.Memory = line_fault.Memory
of_line d fault = line_fault.Object (of_member member_name d fault)

-- the same, as a request's
abbrev pub of_request : Data → MemberFault Member → RequestFault
of_request d fault = request_fault.Object (of_member member_name d fault)

-- a value, where there is no fault by another name
abbrev pub faultless : {A E D : Type 0} → (E → D) → Option E → A → Result A D
faultless f None x = Ok x
faultless f (Some fault) x = Err (f fault)
