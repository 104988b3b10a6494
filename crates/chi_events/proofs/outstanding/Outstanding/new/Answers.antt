-- before any event nothing is told
use Rattle.std.proofs.Common.{◌≤◌, [], arith}
use Rattle.std.proofs.lemmas.List.Elements.{All-nil}
use Rattle.std.proofs.lemmas.List.Sorted.{IsPermutation-refl}
use Rattle.chi_events.specs.declared.event.Event.{Event}
use Rattle.chi_events.specs.Outstanding.{IsAccepted, IsEvent}
use Rattle.chi_events.specs.RequestEvents.{each_request}
use Rattle.chi_events.proofs.outstanding.Outstanding.new.Goals as goal

pub returns-clause-tells : goal.returns-clause-tells
unfolding each_request
returns-clause-tells c = record {
  bounds = All-nil IsEvent;
  in_time = λ i j d from below. absurd (omega arith);
  times = All-nil (λ (e : Event). e.time ≤ 0);
  requests = c.in_ok-new.ensures;
  ends = IsPermutation-refl [];
  last = λ i j d less below. absurd (omega arith);
  accepted = All-nil IsAccepted;
}
