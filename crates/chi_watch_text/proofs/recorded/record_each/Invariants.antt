-- the events that were given were recorded
use Rattle.std.proofs.Common.{◌≡◌, List}
use Rattle.chi_events.specs.declared.event.Event.{Event}
use Rattle.chi_watch_text.specs.Recorded.{HasRecorded}
use Rattle.chi_watch_text.proofs.Recordings.{HasRecordedLines}
use Rattle.chi_watch_text.proofs.recorded.record_each.Given as goal

abbrev pub invariant-loop : goal.invariant-loop
invariant-loop g l = record {
  lines : HasRecordedLines (g.R.Read.remaining l.initial.from) l.recording l.reading (g.R.Read.remaining l.from);
  recorded : (events : List Event) × HasRecorded events l.recording;
  format : l.reading.format ≡ l.fn.format;
}
