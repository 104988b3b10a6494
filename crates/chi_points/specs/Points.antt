-- requests that are told at the times of their points
use Rattle.std.specs.Prelude.{ℕ, ◌==◌, Bool, true, false, not, ◌&&◌, if◌then◌else◌, List, [], ◌∷◌, ◌++◌, Option, None, Some, drop, filter, filter_map, find, length, map, option_map}
use Rattle.std.specs.List.{flat_map, list_any, take_while}
use Rattle.chi_events.specs.declared.event.Event.{Event}
use Rattle.chi_events.specs.declared.event.EventKind.{EventKind}
use Rattle.chi_events.specs.declared.event.EventKind.TheVariants.{Request}
use Rattle.chi_points.specs.declared.slot.Noted.{Noted}
use Rattle.chi_points.specs.declared.slot.Slot.{Slot}
use Rattle.chi_points.specs.declared.slot.Slot.TheVariants as slot
use Rattle.chi_points.specs.Known.{are_dropped, is_alone, is_known, owner}

-- What waits: what is told next, in its order, a request by its point alone; what was told of the requests of which not all is told
-- yet; the time of the last line; and whether that told the end.
pub record PointsValue : Type 0 where
  pub slots : List Slot
  pub noted : List Noted
  pub time : ℕ
  pub is_ended : Bool

abbrev pub nothing_waits : PointsValue
nothing_waits = record { slots = []; noted = []; time = 0; is_ended = false }

-- ---- what is known of a place

-- the request with the place has its point among these
abbrev pub is_point_of : ℕ → Slot → Bool
is_point_of place (slot.Alone e) = false
is_point_of place (slot.Pointed p) = p.place == place

abbrev pub has_point : List Slot → ℕ → Bool
has_point slots place = list_any (is_point_of place) slots

-- something was told of it
abbrev pub is_noted : List Noted → ℕ → Bool
is_noted noted place = list_any (λ n. n.place == place) noted

-- It waits for its point: it was told, and neither dropped nor has it its point.
abbrev pub waits_for_point : PointsValue → ℕ → Bool
waits_for_point w place = is_noted w.noted place && not (has_point w.slots place)

-- ---- one line more

abbrev pub at : ℕ → EventKind → Event
at time k = record { time = time; kind = k }

abbrev pub alone_at : ℕ → EventKind → Slot
alone_at time k = slot.Alone (at time k)

abbrev pub noted_of : ℕ → EventKind → Noted
noted_of place k = record { place = place; kind = k }

-- what a flit told at a time, by the request of which it told: one that is dropped and has no point is told no more
abbrev pub with_owned : ℕ → List EventKind → Option ℕ → PointsValue → PointsValue
with_owned time kinds None w = record w { slots = w.slots ++ map (alone_at time) kinds; time = time }
with_owned time kinds (Some place) w =
    if are_dropped kinds && not (has_point w.slots place) then
    record w { slots = w.slots ++ map (alone_at time) (filter is_alone kinds); noted = filter (λ n. not (n.place == place)) w.noted; time = time }
    else record w { noted = w.noted ++ map (noted_of place) kinds; time = time }

abbrev pub with_told : ℕ → List EventKind → PointsValue → PointsValue
with_told time kinds w = with_owned time kinds (owner kinds) w

-- an event of no request
abbrev pub with_event : Event → PointsValue → PointsValue
with_event e w = record w { slots = w.slots ++ slot.Alone e ∷ []; time = e.time }

-- the point of the request with a place, where it waits for it
abbrev pub with_point : ℕ → ℕ → PointsValue → PointsValue
with_point time place w =
    if waits_for_point w place then record w { slots = w.slots ++ slot.Pointed (record { time = time; place = place }) ∷ []; time = time }
    else record w { time = time }

-- ---- what is told

-- the events of a slot: of a request all that was told of it, in its order, at the time of its point
abbrev pub kind_at : ℕ → Noted → Option EventKind
kind_at place n = if n.place == place then Some n.kind else None

abbrev pub kinds_of : List Noted → ℕ → List EventKind
kinds_of noted place = filter_map (kind_at place) noted

abbrev pub told_at : List Noted → Slot → List Event
told_at noted (slot.Alone e) = e ∷ []
told_at noted (slot.Pointed p) = map (at p.time) (kinds_of noted p.place)

-- a slot can be told: all is known of its request
abbrev pub is_ready : List Noted → Slot → Bool
is_ready noted (slot.Alone e) = true
is_ready noted (slot.Pointed p) = is_known noted p.place

-- the slots that are told now: up to the first of whose request not all is known
abbrev pub ready : PointsValue → List Slot
ready w = take_while (is_ready w.noted) w.slots

abbrev pub told : List Noted → List Slot → List Event
told noted slots = flat_map (told_at noted) slots

abbrev pub told_now : PointsValue → List Event
told_now w = told w.noted (ready w)

-- what waits after these slots were told
abbrev pub noted_after : List Slot → List Noted → List Noted
noted_after slots noted = filter (λ n. not (has_point slots n.place)) noted

abbrev pub left_after : List Slot → PointsValue → PointsValue
left_after slots w = record w { slots = drop (length slots) w.slots; noted = noted_after slots w.noted }

abbrev pub left : PointsValue → PointsValue
left w = left_after (ready w) w

-- ---- the end

-- all that waits is told at the end: the slots, the requests that have no point, which are open, and the end
abbrev pub told_at_end : Event → PointsValue → List Event
told_at_end end w = told w.noted w.slots ++ map (λ n. at end.time n.kind) (noted_after w.slots w.noted) ++ end ∷ []

abbrev pub ended : Event → PointsValue
ended end = record { slots = []; noted = []; time = end.time; is_ended = true }

-- the first request that was completed and has no point, by its line
abbrev pub is_missing : PointsValue → Noted → Bool
is_missing w n = not (has_point w.slots n.place) && is_known w.noted n.place

abbrev pub line_of : EventKind → ℕ
line_of (Request r) = r.fields.number
line_of _ = 0

abbrev pub missing_point : PointsValue → Option ℕ
missing_point w = option_map (λ n. line_of n.kind) (find (is_missing w) w.noted)
