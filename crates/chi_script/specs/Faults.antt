-- the fault of a script of which a member has one
use Rattle.chi_json.specs.declared.member.MemberFault.{MemberFault}
use Rattle.chi_json.specs.declared.member.MemberFault.TheVariants as member_fault
use Rattle.chi_script.specs.declared.fault.ScriptFault.{ScriptFault}
use Rattle.chi_script.specs.declared.fault.ScriptFault.TheVariants.{Missing, BadMember, Memory}
use Rattle.chi_script.specs.declared.member.Member.{Member}

abbrev pub as_fault : MemberFault Member → ScriptFault
as_fault (member_fault.Missing m) = Missing m
as_fault (member_fault.BadMember m) = BadMember m
as_fault member_fault.Memory = Memory
