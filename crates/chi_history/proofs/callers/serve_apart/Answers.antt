-- What was added has the one entry of each.
use Rattle.std.proofs.Common.{rules, ◌≡◌, true, refl, ◌++◌, [], ◌∷◌}
use Rattle.chi_history.specs.History.{IsFreeOf}
use Rattle.chi_history.specs.HomeClauses.{entry}
use Rattle.chi_history.proofs.CallerLemmas.{served_apart}
use Rattle.chi_history.proofs.callers.serve_apart.Goals as goal

pub returns-clause-both : goal.returns-clause-both
returns-clause-both g c =
    let h = g.H.Home in
    let first = c.serve_until_done-first.ensures.done in
    let second = c.serve_until_done-second.ensures.done in
    let one_after = c.serve_until_done-first.new.seat in
    let other_after = c.serve_until_done-second.new.seat in
    let e = entry c.args.one c.args.one_access.now c.serve_until_done-first.result in
    let f = entry c.args.other c.args.other_access.now c.serve_until_done-second.result in
    let one_seen : h.seen one_after ≡ (h.seen c.args.seat.now ++ first.0) ++ e ∷ [] = rw c.split-beside.ensures.seen.1 at first.1 in
    let other_seen : h.seen other_after ≡ (h.seen c.args.seat.now ++ second.0) ++ f ∷ [] = rw c.split-beside.ensures.seen.0 at second.1 in
    let one_free : IsFreeOf (h.held one_after) first.0 = rw c.serve_until_done-first.ensures.held first.2 in
    let other_free : IsFreeOf (h.held other_after) second.0 = rw c.serve_until_done-second.ensures.held second.2 in
    let one_holds : h.held one_after c.args.one ≡ true = search rules in
    let other_holds : h.held other_after c.args.other ≡ true = search rules in
    rw c.snapshot.ensures.seen
    (served_apart (h.seen c.args.seat.now) (h.seen one_after) (h.seen other_after) (h.seen c.rejoin.new.seat) (h.held one_after) (h.held other_after)
    first.0 second.0 e f c.args.one c.args.other refl one_holds one_seen one_free refl other_holds other_seen other_free c.rejoin.ensures.joined)
