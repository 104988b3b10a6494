-- the numbers of the reasons
use Rattle.std.proofs.Common.{◌<◌, arith}
use Rattle.chi_fields.specs.declared.refusal.Refusal.{Refusal}
use Rattle.chi_fields.specs.declared.refusal.Refusal.TheVariants.{UnknownOpcode, ReservedSize, SizeOutOfProfile, Misaligned, OutOfRegion, BadByteEnable}
use Rattle.chi_cover.specs.Refusals.{refusal_number}

pub number_below : (reason : Refusal) → refusal_number reason < 6
number_below UnknownOpcode = omega arith
number_below ReservedSize = omega arith
number_below SizeOutOfProfile = omega arith
number_below Misaligned = omega arith
number_below OutOfRegion = omega arith
number_below BadByteEnable = omega arith
