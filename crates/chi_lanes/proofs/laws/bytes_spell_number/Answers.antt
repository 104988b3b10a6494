-- The law is a lemma in each byte order.
use Rattle.std.proofs.Common.{◌∙◌, mod-eq_of_lt}
use Rattle.chi_lanes.proofs.ReversedBytes.{AreBytes-bytes, length-bytes, number_in-bytes}
use Rattle.chi_lanes.proofs.laws.bytes_spell_number.Goals as goal

pub returns : goal.returns
returns c endian len n fits = (length-bytes endian len n, AreBytes-bytes endian len n, number_in-bytes endian len n ∙ mod-eq_of_lt fits)
