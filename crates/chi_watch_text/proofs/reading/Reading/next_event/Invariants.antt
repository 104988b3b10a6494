-- what is given next after the lines that were read by now is what is given next after those before
use Rattle.std.proofs.Common.{◌≡◌, ◌⊎◌, ℕ, [], List, Option}
use Rattle.chi_events.specs.declared.event.Event.{Event}
use Rattle.chi_watch_text.specs.Reading.{BeginsWith, HasGivenOf}
use Rattle.chi_watch_text.proofs.reading.Reading.next_event.Given as goal

abbrev pub invariant-loop : goal.invariant-loop
invariant-loop g l = record {
  given : (start : Option (List ℕ)) (events : List Event) → HasGivenOf start events l.fn.self (g.R.Read.remaining l.fn.from) → HasGivenOf start events l.self (g.R.Read.remaining l.from);
  lines : BeginsWith (g.R.Read.remaining l.fn.from) l.self.lines.items (g.R.Read.remaining l.from);
  format : l.self.format ≡ l.fn.self.format;
  whole : (l.self.pending.items ≡ l.fn.self.pending.items) ⊎ (l.fn.self.pending.items ≡ []);
}
