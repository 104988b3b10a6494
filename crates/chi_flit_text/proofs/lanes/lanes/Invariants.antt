-- the bytes of the lanes so far, and the bits of those that are not known
use Rattle.std.proofs.Common.{◌≡◌, ℕ, ◌+◌, ◌<◌, get_or, length}
use Rattle.chi_flit_text.specs.Lanes.{byte_of, unknown_of}
use Rattle.chi_flit_text.proofs.MaskSoFar.{IsMask}
use Rattle.chi_flit_text.proofs.lanes.lanes.Given as goal

abbrev pub invariant-loop-i : goal.invariant-loop-i
invariant-loop-i l = record {
  sized : length l.lanes ≡ 16;
  each : (k : ℕ) → k < l.i → get_or l.lanes k 0 ≡ byte_of l.digits (l.first + k);
  mask : IsMask (λ i. unknown_of l.digits (l.first + i)) l.i l.unknown;
}
