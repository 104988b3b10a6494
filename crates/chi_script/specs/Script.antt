-- the script that a text is, or its first fault
use Rattle.std.specs.Prelude.{ℕ, ◌-◌, ◌^◌, ◌==◌, ◌≤◌, nat_lt, if◌then◌else◌, List, [], ◌∷◌, length, is_some, Result, Ok, Err}
use Rattle.std.specs.Option.{ok_or}
use Rattle.serde_json.specs.Data.{Data, Items, no_items, item}
use Rattle.serde_json.specs.Find.{as_array, as_object}
use Rattle.chi_fields.specs.Extent.{Extent, region_of}
use Rattle.chi_fields.specs.declared.region.RegionFault.{RegionFault}
use Rattle.chi_fields.specs.declared.request.Request.{Request}
use Rattle.chi_json.specs.Members.{◌>>=◌, member_by, number_of, opening_words, or_else}
use Rattle.chi_json.specs.Object.{IsReadBack}
use Rattle.chi_json.specs.Values.{hex_bytes, json_value}
use Rattle.chi_json.specs.declared.member.MemberFault.{MemberFault}
use Rattle.chi_json.specs.declared.member.MemberFault.TheVariants as member_fault
use Rattle.chi_script.specs.Faults.{as_fault}
use Rattle.chi_script.specs.Member.{member_name}
use Rattle.chi_script.specs.declared.fault.ScriptFault.{ScriptFault}
use Rattle.chi_script.specs.declared.fault.ScriptFault.TheVariants.{NotJson, NotObject, TooManyRequests, RegionRefused}
use Rattle.chi_script.specs.declared.member.Member.{Member}
use Rattle.chi_script.specs.declared.member.Member.TheVariants.{Base, Granules, Image, Requests, Src, Txn, Opcode, Size, Addr, Endian, Be, Lanes}

-- what a script says: a region, the words of its granules at the opening, and the requests
pub record ScriptValue : Type 0 where
  pub region : Extent
  pub image : List ℕ
  pub requests : List Request

-- a request, of a requester up to the greatest one
unfoldable pub request_of : ℕ → Data → Result Request (MemberFault Member)
request_of top d = do
  src ← number_of member_name Src top d
  txn ← number_of member_name Txn 255 d
  opcode ← number_of member_name Opcode 255 d
  size ← number_of member_name Size 7 d
  addr ← number_of member_name Addr (2 ^ 64 - 1) d
  endian ← number_of member_name Endian 1 d
  be ← number_of member_name Be 65535 d
  lanes ← member_by member_name Lanes (hex_bytes 16) d
  Ok (record { src = src; txn = txn; opcode = opcode; size = size; addr = addr; endian = endian == 1; be = be; lanes = lanes })

unfoldable pub element_of : ℕ → Data → Result Request (MemberFault Member)
element_of top d = if is_some (as_object d) then request_of top d else Err (member_fault.BadMember Requests)

unfoldable pub requests_of : ℕ → Items → Result (List Request) (MemberFault Member)
requests_of top no_items = Ok []
requests_of top (item d ds) = do
  request ← element_of top d
  requests ← requests_of top ds
  Ok (request ∷ requests)

abbrev pub on_region : Result Extent RegionFault → List ℕ → List Request → Result ScriptValue ScriptFault
on_region (Ok region) image requests = Ok (record { region = region; image = image; requests = requests })
on_region (Err fault) image requests = Err (RegionRefused fault)

unfoldable pub object_script : ℕ → Data → Result ScriptValue ScriptFault
object_script top d = do
  base ← or_else as_fault (number_of member_name Base (2 ^ 64 - 1) d)
  granules ← or_else as_fault (number_of member_name Granules 65535 d)
  image ← or_else as_fault (opening_words member_name Image granules d)
  elements ← or_else as_fault (member_by member_name Requests as_array d)
  requests ← or_else as_fault (requests_of top elements)
  if nat_lt 4096 (length requests) then Err TooManyRequests else on_region (region_of base granules) image requests

-- the script that a text is, for requesters up to the greatest one, or the first fault
unfoldable pub script : List ℕ → ℕ → Result ScriptValue ScriptFault
script text top = do
  d ← ok_or (json_value text) NotJson
  if is_some (as_object d) then object_script top d else Err NotObject

-- a request that a script can have
pub record IsWritable (q : Request) : Type 0 where
  pub src : q.src ≤ 7
  pub txn : q.txn ≤ 255
  pub opcode : q.opcode ≤ 255
  pub size : q.size ≤ 7
  pub addr : q.addr ≤ 2 ^ 64 - 1
  pub be : q.be ≤ 65535
  pub lanes : IsReadBack 16 q.lanes
