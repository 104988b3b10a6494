-- what is known of requests by what was told of them
use Rattle.std.specs.Prelude.{ℕ, ◌/◌, ◌==◌, Bool, true, false, not, ◌&&◌, ◌||◌, List, Option, None, Some, find, is_none, is_some, option_and_then}
use Rattle.std.specs.List.{list_all, list_any}
use Rattle.chi_events.specs.declared.event.EventKind.{EventKind}
use Rattle.chi_events.specs.declared.event.EventKind.TheVariants.{Request, Data, Reply, Dropped, Refused, Word, Final, Unknown, End}
use Rattle.chi_events.specs.declared.event.Requested.{Requested}
use Rattle.chi_points.specs.declared.slot.Noted.{Noted}

-- The place of the request of which an event is one: each of its operations has eight times that, and less than eight, as its number.
abbrev pub place_of : EventKind → Option ℕ
place_of (Request r) = Some (r.id / 8)
place_of (Data p) = Some (p.id / 8)
place_of (Reply c) = Some (c.id / 8)
place_of (Dropped id) = Some (id / 8)
place_of (Refused id reason) = Some (id / 8)
place_of (Word told) = None
place_of (Final told) = None
place_of (Unknown addr len) = None
place_of End = None

abbrev pub is_alone : EventKind → Bool
is_alone k = is_none (place_of k)

-- that of the request of which events tell, if they tell of one
abbrev pub is_owned : EventKind → Bool
is_owned k = is_some (place_of k)

abbrev pub owner : List EventKind → Option ℕ
owner kinds = option_and_then place_of (find is_owned kinds)

-- what an event tells of the operation with a number
abbrev pub is_data_of : ℕ → EventKind → Bool
is_data_of id (Data p) = p.id == id
is_data_of id _ = false

abbrev pub is_reply_of : ℕ → EventKind → Bool
is_reply_of id (Reply c) = c.id == id
is_reply_of id _ = false

abbrev pub is_drop_of : ℕ → EventKind → Bool
is_drop_of id (Dropped d) = d == id
is_drop_of id _ = false

abbrev pub is_drop : EventKind → Bool
is_drop (Dropped id) = true
is_drop _ = false

-- one of them says that a request took no effect
abbrev pub are_dropped : List EventKind → Bool
are_dropped kinds = list_any is_drop kinds

-- what was told of an operation
abbrev pub has_data : List Noted → ℕ → Bool
has_data noted id = list_any (λ n. is_data_of id n.kind) noted

abbrev pub has_reply : List Noted → ℕ → Bool
has_reply noted id = list_any (λ n. is_reply_of id n.kind) noted

abbrev pub has_drop : List Noted → ℕ → Bool
has_drop noted id = list_any (λ n. is_drop_of id n.kind) noted

-- All is known of an operation: it was dropped, or it has its reply and the data that it needs.
abbrev pub is_ended : List Noted → Requested → Bool
is_ended noted r = has_drop noted r.id || (has_reply noted r.id && (r.fields.opcode == 0x04 || has_data noted r.id))

abbrev pub is_ended_of : List Noted → EventKind → Bool
is_ended_of noted (Request r) = is_ended noted r
is_ended_of noted _ = true

-- All is known of the request with a place: each of its operations has ended.
abbrev pub is_known : List Noted → ℕ → Bool
is_known noted place = list_all (λ n. not (n.place == place) || is_ended_of noted n.kind) noted
