-- the point that an object states, or its first fault
use Rattle.std.specs.Prelude.{ℕ, ◌-◌, ◌^◌, Bool, true, false, if◌then◌else◌, List, [], ◌∷◌, codes, Option, None, Some, option_and_then, Result, Ok, Err}
use Rattle.std.specs.Str.{bytes_eq}
use Rattle.serde_json.specs.Data.{Data as Value, Members}
use Rattle.serde_json.specs.Find.{as_str, get}
use Rattle.chi_json.specs.Members.{◌>>=◌, number_of, or_else}
use Rattle.chi_json.specs.Unknown.{unknown_in}
use Rattle.chi_json.specs.declared.fault.ObjectFault.TheVariants.{UnknownMember}
use Rattle.chi_json.specs.declared.member.MemberFault.{MemberFault}
use Rattle.chi_points.specs.declared.point.Point.{Point}
use Rattle.chi_flit_text.specs.declared.fault.FlitLineFault.{FlitLineFault}
use Rattle.chi_flit_text.specs.declared.fault.FlitLineFault.TheVariants as fault
use Rattle.chi_flit_text.specs.declared.member.FlitMember.{FlitMember}
use Rattle.chi_flit_text.specs.declared.member.FlitMember.TheVariants as member
use Rattle.chi_flit_text.specs.declared.point_line.PointLine.{PointLine}
use Rattle.chi_flit_text.specs.Faults.{faultless, of_flit}
use Rattle.chi_flit_text.specs.LookedAt.{looked_at}
use Rattle.chi_flit_text.specs.Member.{member_name}
use Rattle.chi_flit_text.specs.Stated.{hex_number, validity_by}

-- the object names the channel of points
abbrev pub is_point_name : Option (List ℕ) → Bool
is_point_name None = false
is_point_name (Some s) = bytes_eq s (codes "POINT")

abbrev pub names_point : Value → Bool
names_point d = is_point_name (option_and_then as_str (get (codes "channel") d))

-- the members that a point may have
abbrev pub point_members : List (List FlitMember)
point_members = (member.Channel ∷ member.Time ∷ member.Valid ∷ member.Src ∷ member.Txn ∷ []) ∷ []

-- what its members state
unfoldable pub point_line : Value → Result PointLine (MemberFault FlitMember)
point_line d = do
  time ← number_of member_name member.Time (2 ^ 64 - 1) d
  src ← hex_number member.Src 0xffff d
  txn ← hex_number member.Txn 0xffff d
  is_valid ← validity_by (get (member_name member.Valid) d)
  Ok (record { time = time; src = src; txn = txn; is_valid = is_valid })

-- the point of an object that has no other members
unfoldable pub object_point : Value → Members → Result Point FlitLineFault
object_point d members = do
  line ← or_else (of_flit d) (point_line d)
  valid_line ← if line.is_valid then Ok line else Err fault.UnknownValid
  whole_line ← faultless (λ name. fault.Object (UnknownMember name)) (unknown_in member_name point_members members) valid_line
  src ← looked_at true member.Src 0 whole_line.src
  txn ← looked_at true member.Txn 0 whole_line.txn
  Ok (record { time = whole_line.time; src = src; txn = txn })
