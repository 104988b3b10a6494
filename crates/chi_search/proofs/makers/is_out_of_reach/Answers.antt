-- all of the bits, or those of one byte
use Rattle.chi_search.proofs.Reach.{part_of}
use Rattle.chi_search.proofs.makers.is_out_of_reach.Goals as goal

pub has_maker-requires-then-differing-part-ne0-clause-bits : goal.has_maker-requires-then-differing-part-ne0-clause-bits
has_maker-requires-then-differing-part-ne0-clause-bits c k one = c.requires.bits k (part_of c.args.bits _ k one).0

pub returns-then-not-has_maker : goal.returns-then-not-has_maker
returns-then-not-has_maker c _ = record {
  part = c.args.bits;
  within = λ k one. one;
  unmade = c.has_maker.ensures c.if-not-has_maker.true;
}

pub returns-then-not-has_maker-2 : goal.returns-then-not-has_maker-2
returns-then-not-has_maker-2 c _ = record {
  part = _;
  within = λ k one. (part_of c.args.bits _ k one).0;
  unmade = c.has_maker-then-differing-part-ne0.ensures c.if-not-has_maker-2.true;
}
