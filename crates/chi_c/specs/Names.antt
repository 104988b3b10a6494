-- names in a buffer of C's, the name of each result, and the version
use Rattle.std.specs.Prelude.{ℕ, ◌+◌, ◌==◌, nat_lt, if◌then◌else◌, List, [], ◌∷◌, ◌++◌, codes, drop, length}
use Rattle.chi_fields.specs.declared.refusal.Refusal.TheVariants.{UnknownOpcode, ReservedSize, SizeOutOfProfile, Misaligned, OutOfRegion, BadByteEnable}
use Rattle.chi_fields.specs.declared.region.RegionFault.TheVariants.{BaseNotLineAligned, GranuleCount, EndPastAddresses}
use Rattle.chi_fields.specs.Extent.{fault_name}
use Rattle.chi_fields.specs.Refusal.{name_of}

-- the buffer with a name and the 0 that ends it, where it has room for both, and else as it was
abbrev pub with_name : List ℕ → List ℕ → List ℕ
with_name name buffer = if nat_lt (length name) (length buffer) then name ++ (0 ∷ drop (length name + 1) buffer) else buffer

-- the name of a result: Done, that of the refusal or of the region's fault, and no text of a number that no call answers
abbrev pub result_name : ℕ → List ℕ
result_name n =
    if n == 0 then codes "Done"
    else if n == 1 then name_of UnknownOpcode
    else if n == 2 then name_of ReservedSize
    else if n == 3 then name_of SizeOutOfProfile
    else if n == 4 then name_of Misaligned
    else if n == 5 then name_of OutOfRegion
    else if n == 6 then name_of BadByteEnable
    else if n == 17 then fault_name BaseNotLineAligned
    else if n == 18 then fault_name GranuleCount
    else if n == 19 then fault_name EndPastAddresses
    else []

-- the version of the library
abbrev pub version : List ℕ
version = codes "0.1.0"
