-- those that are not known are counted
use Rattle.std.proofs.Common.{◌≡◌, subst}
use Rattle.chi_watch.specs.Counts.{unjudged}
use Rattle.chi_watch.specs.Watches.{WatchValue}
use Rattle.chi_watch.proofs.watch.Watch.unjudged.Goals as goal

pub returns : goal.returns
returns c = subst (λ (w : WatchValue). c.count_unjudged.result ≡ unjudged w) c.self.view_is c.count_unjudged.ensures
