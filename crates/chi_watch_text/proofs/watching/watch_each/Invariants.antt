-- the events that were given were taken, and what is found is found once, and not at all where it does not keep going; how far it can be
-- explained is known, or so many states were looked at; as many operations are shown as were asked for; the lines are kept where they are
-- to be
use Rattle.std.proofs.Common.{◌≡◌, ◌≢◌, List, [], All, false, flat_map, is_some}
use Rattle.std.specs.List.{AllPairs}
use Rattle.std.specs.Io.KnownBytes.{Appends}
use Rattle.chi_events.specs.declared.event.Event.{Event}
use Rattle.chi_search.specs.Looks.{Grew, for_verdict}
use Rattle.chi_watch.specs.Watches.{HasTaken}
use Rattle.chi_watch_text.specs.Kept.{AreKeptOf}
use Rattle.chi_watch.specs.Reaching.{IsReachedBy}
use Rattle.chi_watch_text.specs.Outcomes.{HasTakenLines}
use Rattle.chi_watch_text.specs.Written.{found_text}
use Rattle.chi_watch_text.specs.declared.watched.FoundGranule.{FoundGranule}
use Rattle.chi_watch_text.proofs.watching.watch_each.Given as goal

abbrev pub invariant-loop : goal.invariant-loop
invariant-loop g l = record {
  taken : HasTakenLines (g.R.Read.remaining l.initial.from) l.time l.is_ended l.found.items l.quiet.items l.watch l.reading (g.R.Read.remaining l.from);
  once : AllPairs (λ a b. a.granule ≢ b.granule) l.found.items;
  told : (events : List Event) × HasTaken events l.watch;
  shown : l.watch.shown ≡ l.options.around;
  reached : All (λ (f : FoundGranule). IsReachedBy (g.P.Progress.looked for_verdict) l.initial.progress l.progress l.options.budget f.reach f.cut_short) l.found.items;
  written : Appends (g.W.Write.contents l.initial.to) (g.W.Write.contents l.to) (flat_map (found_text l.options.answer) l.found.items);
  first : l.options.keep_going ≡ false → l.found.items ≡ [];
  looked : Grew (g.P.Progress.looked for_verdict) l.initial.progress l.progress;
  kept : AreKeptOf (g.R.Read.remaining l.initial.from) l.kept (g.R.Read.remaining l.from);
  keeps : is_some l.kept ≡ l.options.keep_lines;
  format : l.reading.format ≡ l.options.format;
}
