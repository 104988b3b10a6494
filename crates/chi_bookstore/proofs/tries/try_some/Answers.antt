-- At most so many tries.
use Rattle.std.proofs.Common.{inl}
use Rattle.chi_bookstore.proofs.LostTries.{before_tries, lost_again, won_at_last}
use Rattle.chi_bookstore.proofs.tries.try_some.Goals as goal

pub tries-init : goal.tries-init
tries-init g c = before_tries c.args.home.now.values c.args.seat.now c.args.purpose.now.access c.requires.known

pub returns-in-Some-clause-served : goal.returns-in-Some-clause-served
returns-in-Some-clause-served g c = (
  won_at_last c.args.home.now.values c.args.seat.now c.tries.seat c.try_once.new.seat c.args.purpose.now.src c.args.purpose.now.access c.in-Some.reply c.tries.lost
      c.tries.invariant c.in-Some.ensures.tried,
  inl c.tries-test.true,
)

pub tries-preserved : goal.tries-preserved
tries-preserved g c =
    let told = c.try_once.ensures in
    lost_again c.args.home.now.values c.args.seat.now c.tries.seat c.try_once.new.seat c.args.purpose.now.access c.tries.lost c.tries.invariant told.own told.known
    told.held c.in_default.ensures.tried
