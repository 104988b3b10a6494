-- the end lacks a maker, or an operation that was answered does
use Rattle.std.proofs.Common.{ℕ, ◌<◌, Option, length, sym, subst, arith, slice_index_or}
use Rattle.chi_search.specs.Effects.{no_effect}
use Rattle.chi_search.specs.Positions.{position_of}
use Rattle.chi_search.specs.Within.{IsDeadWithin}
use Rattle.chi_search.proofs.Reach.{both, end_out_of_reach, out_of_reach}
use Rattle.chi_search.proofs.makers.lacks_maker.Goals as goal

pub returns : goal.returns
returns c _ =
    subst (λ (last : Option ℕ). IsDeadWithin c.args.mask c.args.problem.now.ops.now last (position_of c.args.state.now)) (sym c.in-Some.is)
    (end_out_of_reach c.args.mask c.args.problem.now.ops.now c.in-Some.seen (position_of c.args.state.now) (c.is_out_of_reach.ensures c.if-is_out_of_reach.true))

pub returns-then-is_out_of_reach-2 : goal.returns-then-is_out_of_reach-2
returns-then-is_out_of_reach-2 c _ =
    let below : c.loop-place.place < length c.args.problem.now.effects.now = omega arith in
    out_of_reach c.args.mask c.args.problem.now.ops.now c.args.problem.now.final_word (position_of c.args.state.now) c.loop-place.place
    (slice_index_or c.args.problem.now.effects.now c.loop-place.place no_effect)
    (c.requires.problem.effects c.loop-place.place below) (c.must_find.ensures.left c.if-must_find.true) (c.must_find.ensures.answered c.if-must_find.true)
    (c.is_out_of_reach-then-must_find.ensures c.if-is_out_of_reach-2.true)

pub is_out_of_reach-requires-then-must_find-clause-bits : goal.is_out_of_reach-requires-then-must_find-clause-bits
is_out_of_reach-requires-then-must_find-clause-bits c =
    both (slice_index_or c.args.problem.now.effects.now c.loop-place.place no_effect).found_mask c.args.mask
