-- one place more, and those between that start too late
use Rattle.std.proofs.Common.{◌≡◌, ◌+◌, ◌≤◌, get_or, length, inl, inr, sym, ap, ◌∙◌, arith, below_more}
use Rattle.std.proofs.lemmas.Bool.{cases_lt}
use Rattle.std.proofs.lemmas.List.{get_or_read}
use Rattle.chi_trace.specs.declared.operation.Operation.{Operation}
use Rattle.chi_trace.specs.Explains.{at, nothing}
use Rattle.chi_search.specs.Commuting.{Passes}
use Rattle.chi_search.specs.Positions.{position_of}
use Rattle.chi_search.proofs.Settling.{left_is}
use Rattle.chi_search.proofs.commuting.stop_of.Goals as goal

pub loop-other-init : goal.loop-other-init
loop-other-init c j before left apart starts =
    let ops = c.args.ops.now in
    let here : get_or ops c.args.place c.index-ops-place.result ≡ at ops c.args.place =
    sym c.index-ops-place.is ∙ get_or_read ops c.args.place c.index-ops-place.result c.requires.place c.index-ops-place.is nothing in
    let from : c.args.state.now.first ≤ j = (left_is (length ops) (position_of c.args.state.now) j left).1 in
    absurd (omega (arith, starts, c.next-other.ensures.late j from before, ap (λ (o : Operation). o.end) here))

pub loop-other-preserved : goal.loop-other-preserved
loop-other-preserved c j before = elim (cases_lt j (c.loop-other.other + 1)) [
  | inl earlier ↦
      below_more (Passes c.args.ops.now (position_of c.args.state.now) c.args.place) c.loop-other.other c.loop-other.invariant
      (c.stops-in-loop-other.ensures c.if-stops-2.false) j earlier
  | inr from ↦ λ left apart starts.
      let ops = c.args.ops.now in
      let here : get_or ops c.args.place c.index-ops-place.result ≡ at ops c.args.place =
      sym c.index-ops-place.is ∙ get_or_read ops c.args.place c.index-ops-place.result c.requires.place c.index-ops-place.is nothing in
      absurd (omega (arith, starts, c.next-other-in-loop-other.ensures.late j from before, ap (λ (o : Operation). o.end) here))
]
