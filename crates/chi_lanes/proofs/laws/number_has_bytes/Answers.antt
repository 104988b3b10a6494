-- The law is a lemma in each byte order.
use Rattle.chi_lanes.proofs.ReversedBytes.{bytes-number_in, number_in-bound}
use Rattle.chi_lanes.proofs.laws.number_has_bytes.Goals as goal

pub returns : goal.returns
returns c endian len bs long are = (rw (← long) (number_in-bound endian bs are), rw (← long) (bytes-number_in endian bs are))
