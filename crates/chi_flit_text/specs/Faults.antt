-- the fault of a flit's line of whose object a member has one
use Rattle.std.specs.Prelude.{Option, None, Some, Result, Ok, Err}
use Rattle.serde_json.specs.Data.{Data}
use Rattle.chi_json.specs.Faults.{of_member}
use Rattle.chi_json.specs.declared.member.MemberFault.{MemberFault}
use Rattle.chi_flit_text.specs.declared.fault.FlitLineFault.{FlitLineFault}
use Rattle.chi_flit_text.specs.declared.fault.FlitLineFault.TheVariants.{Object}
use Rattle.chi_flit_text.specs.declared.member.FlitMember.{FlitMember}
use Rattle.chi_flit_text.specs.Member.{member_name}

abbrev pub of_flit : Data → MemberFault FlitMember → FlitLineFault
of_flit d fault = Object (of_member member_name d fault)

-- a value, where there is no fault by another name
abbrev pub faultless : {A E D : Type 0} → (E → D) → Option E → A → Result A D
faultless f None x = Ok x
faultless f (Some fault) x = Err (f fault)
