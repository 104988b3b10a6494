-- granules that become quiet by an event, and what is shown of them
use Rattle.std.specs.Prelude.{◌≡◌, ℕ, ◌==◌, false, Option, Some, option_map}
use Rattle.std.specs.List.{list_any}
use Rattle.chi_events.specs.declared.event.Event.{Event}
use Rattle.chi_events.specs.declared.event.EventKind.{EventKind}
use Rattle.chi_events.specs.declared.event.EventKind.TheVariants.{Word}
use Rattle.chi_events.specs.Outstanding.{request_about}
use Rattle.chi_events.specs.Granules.{granule_of_request}
use Rattle.chi_watch.specs.Watches.{WatchValue, unknown_in}

-- the granule of the outstanding request that an event is about, or of the word that it tells, where something that is not told may
-- have written to that before
abbrev pub granule_of_kind : WatchValue → EventKind → Option ℕ
granule_of_kind w (Word told) = option_map (λ since. told.granule) (unknown_in w told.granule)
granule_of_kind w kind = option_map granule_of_request (request_about w.outstanding.requests kind)

abbrev pub granule_about : WatchValue → Event → Option ℕ
granule_about w e = granule_of_kind w e.kind

-- by this event the last outstanding request of the granule has gone, or its word was told again
pub record BecomesQuiet (old : WatchValue) (e : Event) (new : WatchValue) (g : ℕ) : Type 0 where
  pub about : granule_about old e ≡ Some g
  pub none : list_any (λ p. granule_of_request p == g) new.outstanding.requests ≡ false
