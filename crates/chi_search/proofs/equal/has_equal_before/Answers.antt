-- the equal one before it is left, and starts in time
use Rattle.std.proofs.Common.{◌≡◌, ℕ, ◌<◌, ◌≤◌, get_or, length, sym, ap, subst, ◌∙◌, arith}
use Rattle.std.proofs.lemmas.List.{get_or_default}
use Rattle.chi_trace.specs.declared.operation.Operation.{Operation}
use Rattle.chi_trace.specs.Explains.{at, nothing}
use Rattle.chi_search.specs.Equal.{AreEqual}
use Rattle.chi_search.specs.Moves.{CanCome}
use Rattle.chi_search.specs.Positions.{position_of}
use Rattle.chi_search.proofs.equal.has_equal_before.Goals as goal

pub returns-then-are_equal : goal.returns-then-are_equal
returns-then-are_equal c _ =
    let ops = c.args.ops.now in
    let p = position_of c.args.state.now in
    let place = c.args.place in
    let before = c.loop-before.before in
    let below : before < place = c.loop-before-test.true in
    let first : get_or ops p.first c.index-ops-state.result ≡ at ops p.first =
    get_or_default ops p.first c.index-ops-state.result nothing c.requires.first in
    let op : c.index-ops-place.result ≡ at ops place =
    c.index-ops-place.is ∙ get_or_default ops place c.index-ops-place.result nothing c.requires.place in
    let within : before < length ops = omega (arith, below, c.requires.place) in
    let other : c.index-ops-before-then-is_left.result ≡ at ops before =
    c.index-ops-before-then-is_left.is ∙ get_or_default ops before c.index-ops-before-then-is_left.result nothing within in
    let equal : AreEqual (at ops place) (at ops before) =
    subst (λ (o : Operation). AreEqual o (at ops before)) op
    (subst (AreEqual c.index-ops-place.result) other (c.are_equal.ensures c.if-are_equal.true)) in
    let here : get_or ops before c.index-ops-before.result ≡ at ops before =
    get_or_default ops before c.index-ops-before.result nothing within in
    let starts_here : c.index-ops-before.result.start ≡ (at ops before).start = ap (λ (o : Operation). o.start) (c.index-ops-before.is ∙ here) in
    let ends_first : c.index-ops-state.result.end ≡ (at ops p.first).end = ap (λ (o : Operation). o.end) (c.index-ops-state.is ∙ first) in
    let starts : (at ops before).start ≤ (at ops p.first).end =
    omega (arith, c.if-ops-before.true, starts_here, ends_first, ap (λ (o : Operation). o.start) here, ap (λ (o : Operation). o.end) first) in
    let comes : CanCome ops p before = (sym c.is_left.ensures ∙ c.if-is_left.true, starts) in
    (before, below, equal, comes)
