-- What came before the RetryAck is of others too.
use Rattle.std.proofs.Common.{◌≡◌, ℕ, List, [], ◌∷◌, ◌++◌, subst}
use Rattle.chi_history.specs.declared.entry.Entry.{Entry}
use Rattle.chi_history.specs.NumberSets.{Held}
use Rattle.chi_history.specs.HomeClauses.{entry}
use Rattle.chi_history.specs.History.{IsFreeOf}
use Rattle.chi_history.proofs.CallerLemmas.{done_after_retry}
use Rattle.chi_history.proofs.callers.serve_until_done.Goals as goal

pub returns-in-Retry-clause-done : goal.returns-in-Retry-clause-done
returns-in-Retry-clause-done g c =
    let h = g.H.Home in
    let retried = c.in-Retry.ensures.served.0 in
    let credited = c.serve_credited.ensures.credited in
    subst (λ (src : ℕ). (between : List Entry) × (h.seen c.serve_credited.new.seat ≡ (h.seen c.args.seat.now ++ between) ++ entry src c.args.access.now c.serve_credited.result ∷ [])
    × IsFreeOf (h.held c.args.seat.now) between) c.in-Retry.ensures.served.3
    (done_after_retry (h.opening c.args.home.now) (h.held c.args.seat.now) (h.seen c.args.seat.now) (h.seen c.serve-answered.new.seat) (h.seen c.serve_credited.new.seat)
    c.in-Retry.credit c.args.access.now c.serve_credited.result retried.0 credited.0 retried.1 retried.2 credited.1
    (subst (λ (held : Held). IsFreeOf held credited.0) c.in-Retry.ensures.held credited.2))
