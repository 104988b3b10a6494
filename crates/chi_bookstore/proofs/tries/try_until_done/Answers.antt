-- Tries until an exchange wins.
use Rattle.chi_bookstore.proofs.LostTries.{before_tries, lost_again, uncounted, won_at_last}
use Rattle.chi_bookstore.proofs.tries.try_until_done.Goals as goal

pub tries-init : goal.tries-init
tries-init g c = before_tries c.args.home.now.values c.args.seat.now c.args.purpose.now.access c.requires.known

pub returns-in-Some-try_once-clause-done : goal.returns-in-Some-try_once-clause-done
returns-in-Some-try_once-clause-done g c =
    won_at_last c.args.home.now.values c.args.seat.now c.tries.seat c.try_once.new.seat c.args.purpose.now.src c.args.purpose.now.access c.in-Some-try_once.reply 0
    c.tries.invariant c.in-Some-try_once.ensures.tried

pub tries-preserved : goal.tries-preserved
tries-preserved g c =
    let o = c.args.home.now.values in
    let told = c.try_once.ensures in
    uncounted o c.args.seat.now c.try_once.new.seat c.args.purpose.now.access 1
    (lost_again o c.args.seat.now c.tries.seat c.try_once.new.seat c.args.purpose.now.access 0 c.tries.invariant told.own told.known told.held c.in_default.ensures.tried)
