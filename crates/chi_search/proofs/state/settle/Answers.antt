-- why the operation is settled then, and the state ready
use Rattle.std.proofs.Common.{◌≡◌, ℕ, ◌+◌, ◌≤◌, ◌==◌, ◌||◌, ap, refl, ◌∙◌}
use Rattle.chi_search.specs.declared.state.State.{State}
use Rattle.chi_search.specs.Positions.{has_bit, position_of, words_of}
use Rattle.chi_search.proofs.Settling.{Moved, bits_kept, bits_put, left_is, ready, settles}
use Rattle.chi_search.proofs.state.settle.Goals as goal
use Rattle.chi_search.proofs.state.settle.Goals.{then-place-state+in_ok-put, else-place-state}

-- what the goals have in common
moved : (c : goal.After-to-2-1) → Moved c.args.count (position_of c.args.state.now) c.args.place c.settled_with-by.result
    (position_of record { first = c.args.state.now.first + c.settled_with-by.result; settled = c.trim.new.settled; word = c.args.word })
moved c =
    let p = position_of c.args.state.now in
    let place = c.args.place in
    let by = c.settled_with-by.result in
    let from : p.first ≤ place = (left_is c.args.count p place c.requires.left).1 in
    let put : (k : ℕ) → has_bit (words_of c.if-place-state.to.settled) k ≡ (has_bit p.settled (by + k) || (p.first + (by + k) == place)) =
    elim c.if-place-state.branch [
      | then-place-state+in_ok-put w ↦ λ k. ap (λ (s : State). has_bit (words_of s.settled) k) w.to-is
          ∙ bits_put p place by (words_of c.shift.new.to) (words_of w.put.new.settled) from w.if-place-state.true c.in_ok-shift.ensures w.in_ok-put.ensures k
      | else-place-state w ↦ λ k. ap (λ (s : State). has_bit (words_of s.settled) k) w.to-is
          ∙ bits_kept p place by (words_of c.shift.new.to) from w.if-place-state.false c.in_ok-shift.ensures k
    ]
    in record {
      later = refl;
      within = c.settled_with-by.ensures.within;
      settled = c.settled_with-by.ensures.settled;
      next = c.settled_with-by.ensures.next;
      bits = λ k. c.trim.ensures k ∙ put k;
    }

pub returns-clause-left : goal.returns-clause-left
returns-clause-left c = settles c.args.count (position_of c.args.state.now) c.args.place c.settled_with-by.result _ (moved c)

pub returns-clause-ready : goal.returns-clause-ready
returns-clause-ready c =
    ready c.args.count (position_of c.args.state.now) c.args.place c.settled_with-by.result _ (moved c) c.requires.ready
    (left_is c.args.count (position_of c.args.state.now) c.args.place c.requires.left).0
