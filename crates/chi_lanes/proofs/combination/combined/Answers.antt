-- the bytes of the sum, and of the operations bit by bit
use Rattle.std.proofs.Common.{◌*◌, arith}
use Rattle.std.proofs.lemmas.Nat.{xor_lt, or_lt}
use Rattle.chi_lanes.proofs.Digits.{length-little_bytes, pow_bytes}
use Rattle.chi_lanes.proofs.BitwiseLemmas.{bytes_of_xor, bytes_of_or, bytes_of_cleared}
use Rattle.chi_lanes.proofs.combination.combined.Goals as goal

pub returns-in-Add-clause-bytes : goal.returns-in-Add-clause-bytes
returns-in-Add-clause-bytes c =
    rw (c.in-Add.is, length-little_bytes c.args.len c.args.old) c.sum.ensures.bytes

pub returns-in-Clr-clause-bytes : goal.returns-in-Clr-clause-bytes
returns-in-Clr-clause-bytes c =
    rw c.in-Clr.is (bytes_of_cleared c.args.len c.args.old c.args.sent c.requires.most (omega arith))

pub returns-in-Eor-clause-below : goal.returns-in-Eor-clause-below
returns-in-Eor-clause-below c =
    rw (pow_bytes c.args.len)
    (xor_lt (8 * c.args.len) c.args.old c.args.sent
    (rw (← pow_bytes c.args.len) c.requires.old_fits) (rw (← pow_bytes c.args.len) c.requires.sent_fits))

pub returns-in-Eor-clause-bytes : goal.returns-in-Eor-clause-bytes
returns-in-Eor-clause-bytes c = rw c.in-Eor.is (bytes_of_xor c.args.len c.args.old c.args.sent)

pub returns-in-Set-clause-below : goal.returns-in-Set-clause-below
returns-in-Set-clause-below c =
    rw (pow_bytes c.args.len)
    (or_lt (8 * c.args.len) c.args.old c.args.sent
    (rw (← pow_bytes c.args.len) c.requires.old_fits) (rw (← pow_bytes c.args.len) c.requires.sent_fits))

pub returns-in-Set-clause-bytes : goal.returns-in-Set-clause-bytes
returns-in-Set-clause-bytes c = rw c.in-Set.is (bytes_of_or c.args.len c.args.old c.args.sent)
