-- events that tell their end
use Rattle.std.specs.Prelude.{Bool, true, false, List, None}
use Rattle.std.specs.List.{last_or}
use Rattle.std.specs.Option.{option_map_or}
use Rattle.chi_events.specs.declared.event.Event.{Event}
use Rattle.chi_events.specs.declared.event.EventKind.{EventKind}
use Rattle.chi_events.specs.declared.event.EventKind.TheVariants.{End}

abbrev pub kind_is_end : EventKind → Bool
kind_is_end End = true
kind_is_end _ = false

-- the event tells the end
abbrev pub is_end : Event → Bool
is_end e = kind_is_end e.kind

-- the last of the events tells the end
abbrev pub are_ended : List Event → Bool
are_ended events = option_map_or is_end (last_or None events) false
