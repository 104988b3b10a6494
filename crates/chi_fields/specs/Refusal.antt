-- which requests are refused, and what the others describe
use Rattle.std.specs.Prelude.{ℕ, ◌/◌, ◌%◌, ◌^◌, ◌==◌, nat_le, Bool, not, ◌&&◌, if◌then◌else◌, List, codes, Option, option_map, None, Some, Result, Ok, Err}
use Rattle.chi_fields.specs.declared.kind.Kind.{Kind}
use Rattle.chi_fields.specs.declared.kind.Kind.TheVariants.{Compare}
use Rattle.chi_fields.specs.declared.refusal.Refusal.{Refusal}
use Rattle.chi_fields.specs.declared.refusal.Refusal.TheVariants.{UnknownOpcode, ReservedSize, SizeOutOfProfile, Misaligned, OutOfRegion, BadByteEnable}
use Rattle.chi_fields.specs.declared.request.Request.{Request}
use Rattle.chi_fields.specs.Extent.{Extent, lies_in}
use Rattle.chi_fields.specs.Opcode.{kind_of}
use Rattle.chi_fields.specs.Access.{Access, lane_of, enables_fit}

-- the operand's length: an AtomicCompare's size counts both values
abbrev pub len_of : Kind → ℕ → ℕ
len_of Compare size = 2 ^ size / 2
len_of _ size = 2 ^ size

-- the sizes of the profile
abbrev pub is_in_profile : Kind → ℕ → Bool
is_in_profile Compare size = nat_le 1 size && nat_le size 4
is_in_profile _ size = nat_le size 3

-- the access of this kind that a request describes
abbrev pub access_as : Kind → Request → Access
access_as kind q = record {
  kind = kind;
  addr = q.addr;
  len = len_of kind q.size;
  endian = q.endian;
  enables = q.be;
  lanes = q.lanes;
}

-- the access that a request describes, where its opcode names one
abbrev pub access_of : Request → Option Access
access_of q = option_map (λ kind. access_as kind q) (kind_of q.opcode)

-- the access of a request of this kind, or the first refusal that it meets
unfoldable pub decision_as : Kind → Request → Extent → Result Access Refusal
decision_as kind q region =
    if nat_le 7 q.size then Err ReservedSize
    else if not (is_in_profile kind q.size) then Err SizeOutOfProfile
    else if not (q.addr % len_of kind q.size == 0) then Err Misaligned
    else if not (lies_in q.addr (len_of kind q.size) region) then Err OutOfRegion
    else if not (enables_fit kind (len_of kind q.size) (lane_of q.addr) q.be) then Err BadByteEnable
    else Ok (access_as kind q)

abbrev pub decision_of : Option Kind → Request → Extent → Result Access Refusal
decision_of None q region = Err UnknownOpcode
decision_of (Some kind) q region = decision_as kind q region

-- what a home decides of a request: its access, or the first refusal that it meets
abbrev pub decision : Request → Extent → Result Access Refusal
decision q region = decision_of (kind_of q.opcode) q region

-- the refusal's name
abbrev pub name_of : Refusal → List ℕ
name_of UnknownOpcode = codes "UnknownOpcode"
name_of ReservedSize = codes "ReservedSize"
name_of SizeOutOfProfile = codes "SizeOutOfProfile"
name_of Misaligned = codes "Misaligned"
name_of OutOfRegion = codes "OutOfRegion"
name_of BadByteEnable = codes "BadByteEnable"
