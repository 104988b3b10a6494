-- the bits of the digits so far
use Rattle.chi_flit_text.specs.Digits.{known_bits, unknown_bits}
use Rattle.chi_flit_text.proofs.NumberSoFar.{IsSoFar}
use Rattle.chi_flit_text.proofs.digits.bits_of.Given as goal

abbrev pub invariant-loop-code : goal.invariant-loop-code
invariant-loop-code l = record {
  known : IsSoFar known_bits l.text l.code-index l.known;
  unknown : IsSoFar unknown_bits l.text l.code-index l.unknown;
}
