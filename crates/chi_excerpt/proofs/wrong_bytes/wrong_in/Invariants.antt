-- those so far
use Rattle.std.proofs.Common.{◌≡◌, filter, map}
use Rattle.std.specs.List.{range_with_len}
use Rattle.chi_excerpt.specs.WrongBytes.{byte_in, is_wrong}
use Rattle.chi_excerpt.proofs.wrong_bytes.wrong_in.Given as goal

abbrev pub invariant-loop-place : goal.invariant-loop-place
invariant-loop-place l = l.wrong.items ≡ filter (is_wrong l.legal) (map (byte_in l.lanes) (range_with_len l.first l.place))
