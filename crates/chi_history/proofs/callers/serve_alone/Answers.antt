-- A seat that holds every number sees nothing of others.
use Rattle.chi_history.proofs.CallerLemmas.{completes_alone, never_retried}
use Rattle.chi_history.proofs.callers.serve_alone.Goals as goal

pub unreachable-requires : goal.unreachable-requires
unreachable-requires g c =
    let h = g.H.Home in
    let served = c.in-Retry.ensures.served in
    never_retried (h.opening c.args.home.now) (h.limit c.args.home.now) (h.held c.args.seat.now) (h.seen c.args.seat.now) (h.seen c.serve-served.new.seat) c.args.access.now
    c.in-Retry.lost c.requires.all (g.met.H.Home.seen_is_legal c.args.home.now c.serve-served.new.seat c.in-Retry.ensures.own) served.0 served.1 served.2

pub returns-clause-reply : goal.returns-clause-reply
returns-clause-reply g c =
    let h = g.H.Home in
    (completes_alone (h.opening c.args.home.now) (h.held c.args.seat.now) (h.seen c.args.seat.now) (h.seen c.serve-served.new.seat) c.args.src c.args.access.now c.in-Done.reply
    c.in-Done.lost c.requires.all (g.met.H.Home.seen_is_legal c.args.home.now c.serve-served.new.seat c.in-Done.ensures.own) c.in-Done.ensures.served.0).1

pub returns-clause-seen : goal.returns-clause-seen
returns-clause-seen g c =
    let h = g.H.Home in
    (completes_alone (h.opening c.args.home.now) (h.held c.args.seat.now) (h.seen c.args.seat.now) (h.seen c.serve-served.new.seat) c.args.src c.args.access.now c.in-Done.reply
    c.in-Done.lost c.requires.all (g.met.H.Home.seen_is_legal c.args.home.now c.serve-served.new.seat c.in-Done.ensures.own) c.in-Done.ensures.served.0).0
