-- they are sorted by their times
use Rattle.std.proofs.Common.{rules}
use Rattle.std.proofs.lemmas.List.Sorted.{IsNonDecreasingBy-from_sort_by_key}
use Rattle.chi_watch.specs.Reaching.{stop_time}
use Rattle.chi_watch.specs.declared.ending.FoundAtEnd.{FoundAtEnd}
use Rattle.chi_watch.proofs.ending.by_time.Goals as goal

pub returns-clause-earliest : goal.returns-clause-earliest
returns-clause-earliest c =
    IsNonDecreasingBy-from_sort_by_key (λ (f : FoundAtEnd). stop_time f.reach) _ c.in_ok-sort_by_key.ensures.sorted (λ a r q k. search rules)
