-- faults of events as those of a watch
use Rattle.chi_events.specs.declared.fault.EventFault.{EventFault}
use Rattle.chi_events.specs.declared.fault.EventFault.TheVariants as event_fault
use Rattle.chi_watch.specs.declared.fault.WatchFault.{WatchFault}
use Rattle.chi_watch.specs.declared.fault.WatchFault.TheVariants.{Event, Memory}

abbrev pub as_watch_fault : EventFault → WatchFault
as_watch_fault event_fault.Memory = Memory
as_watch_fault fault = Event fault
