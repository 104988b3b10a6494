-- which requests of a script are refused, and why
use Rattle.std.specs.Prelude.{ℕ, ◌+◌, ◌*◌, ◌/◌, ◌%◌, ◌==◌, nat_lt, if◌then◌else◌, Option, None, Some}
use Rattle.std.specs.Result.{result_err}
use Rattle.chi_fields.specs.Extent.{Extent}
use Rattle.chi_fields.specs.Refusal.{decision}
use Rattle.chi_fields.specs.declared.refusal.Refusal.{Refusal}
use Rattle.chi_fields.specs.declared.refusal.Refusal.TheVariants.{UnknownOpcode, ReservedSize, SizeOutOfProfile, Misaligned, OutOfRegion, BadByteEnable}
use Rattle.chi_fields.specs.declared.request.Request.{Request}

-- the refusals, in the order in which a home meets them
abbrev pub numbered_refusal : ℕ → Refusal
numbered_refusal n =
    if n == 0 then UnknownOpcode else if n == 1 then ReservedSize else if n == 2 then SizeOutOfProfile
    else if n == 3 then Misaligned else if n == 4 then OutOfRegion else BadByteEnable

-- how many of the first requests are refused, where so many of a hundred are
abbrev pub refused_of : ℕ → ℕ → ℕ
refused_of percent n = n * percent / 100

-- why the request at a place is refused: the reasons take turns
abbrev pub refusal_at : ℕ → ℕ → Option Refusal
refusal_at percent i =
    if nat_lt (refused_of percent i) (refused_of percent (i + 1)) then Some (numbered_refusal (refused_of percent i % 6)) else None

-- why a home of a region refuses a request
abbrev pub refusal_of : Extent → Request → Option Refusal
refusal_of region q = result_err (decision q region)
