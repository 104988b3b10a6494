-- the region of memory that a home serves
use Rattle.std.specs.Prelude.{◌≡◌, ℕ, ◌+◌, ◌-◌, ◌*◌, ◌/◌, ◌%◌, ◌^◌, ◌≤◌, ◌==◌, nat_le, nat_lt, Bool, not, ◌&&◌, ◌||◌, if◌then◌else◌, List, codes, Result, Ok, Err}
use Rattle.chi_fields.specs.declared.region.RegionFault.{RegionFault}
use Rattle.chi_fields.specs.declared.region.RegionFault.TheVariants.{BaseNotLineAligned, GranuleCount, EndPastAddresses}

-- the base, and how many granules of eight bytes
pub record Extent : Type 0 where
  pub base : ℕ
  pub granules : ℕ

-- what is true of every region
pub record IsRegion (region : Extent) : Type 0 where
  pub line : region.base % 64 ≡ 0
  pub least : 1 ≤ region.granules
  pub most : region.granules ≤ 512
  pub end : region.base + 8 * region.granules ≤ 2 ^ 52

-- the region, or the first fault
abbrev pub region_of : ℕ → ℕ → Result Extent RegionFault
region_of base granules =
    if not (base % 64 == 0) then Err BaseNotLineAligned
    else if nat_lt granules 1 || nat_lt 512 granules then Err GranuleCount
    else if nat_lt (2 ^ 52) (base + 8 * granules) then Err EndPastAddresses
    else Ok (record { base = base; granules = granules })

-- the fault's name
abbrev pub fault_name : RegionFault → List ℕ
fault_name BaseNotLineAligned = codes "BaseNotLineAligned"
fault_name GranuleCount = codes "GranuleCount"
fault_name EndPastAddresses = codes "EndPastAddresses"

-- the bytes of an operand are all in the region
abbrev pub lies_in : ℕ → ℕ → Extent → Bool
lies_in addr len region = nat_le region.base addr && nat_le (addr + len) (region.base + 8 * region.granules)

-- the granule that has the byte at an address
abbrev pub granule_of : ℕ → Extent → ℕ
granule_of addr region = (addr - region.base) / 8
