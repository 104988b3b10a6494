-- what is counted is what the events tell
use Rattle.std.proofs.Common.{◌∙◌, length, ap}
use Rattle.chi_watch.specs.Watches.{WatchValue}
use Rattle.chi_watch.proofs.Counted.{ended_counted, outstanding_counted}
use Rattle.chi_watch.proofs.watch.Watch.counts.Goals as goal

pub returns-clause-counted : goal.returns-clause-counted
returns-clause-counted c events (ended, is) = record {
  ended = ap (λ (w : WatchValue). w.ended) c.self.view_is ∙ ended_counted events ended c.args.self.now is;
  outstanding = c.count.ensures.count ∙ (ap (λ (w : WatchValue). length w.outstanding.requests) c.self.view_is ∙ outstanding_counted events ended c.args.self.now is);
}
