-- the fault of an object of which a member has one, with the value of a bad one
use Rattle.std.specs.Prelude.{ℕ, List, Option, None, Some}
use Rattle.serde_json.specs.Data.{Data}
use Rattle.serde_json.specs.Find.{get}
use Rattle.chi_json.specs.declared.fault.ObjectFault.{ObjectFault}
use Rattle.chi_json.specs.declared.fault.ObjectFault.TheVariants.{Missing, BadMember, Memory}
use Rattle.chi_json.specs.declared.member.MemberFault.{MemberFault}
use Rattle.chi_json.specs.declared.member.MemberFault.TheVariants as member_fault
use Rattle.chi_json.specs.Shown.{shown_value}

-- a member that is not as stated, and its value; without a value it is missing
abbrev pub bad_member : {M : Type 0} → M → Option Data → ObjectFault M
bad_member m None = Missing m
bad_member m (Some d) = BadMember m (shown_value d)

-- the fault of an object, by that of its member
abbrev pub of_member : {M : Type 0} → (M → List ℕ) → Data → MemberFault M → ObjectFault M
of_member name_of d (member_fault.Missing m) = Missing m
of_member name_of d (member_fault.BadMember m) = bad_member m (get (name_of m) d)
of_member name_of d member_fault.Memory = Memory
