-- what is known of it says that it makes none
use Rattle.std.proofs.Common.{◌<◌, length, arith, inl}
use Rattle.chi_trace.specs.Explains.{at}
use Rattle.chi_search.proofs.making.may_make.Goals as goal

pub returns-then-makes_none : goal.returns-then-makes_none
returns-then-makes_none c _ mask left precedes =
    let below : c.args.place < length c.args.effects.now = omega arith in
    inl (c.makes_none.ensures c.if-makes_none.true (at c.args.ops.now c.args.place) (c.requires.effects c.args.place below))
