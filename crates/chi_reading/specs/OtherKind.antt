-- inputs of another kind: a trace or flits where events are wanted, events or flits where a trace is, and what gzip compressed
use Rattle.std.specs.Prelude.{ℕ, ◌==◌, Bool, false, nat_eq, not, ◌&&◌, ◌||◌, if◌then◌else◌, List, [], ◌∷◌, codes, find, position, take, Option, None, Some, is_none, is_some}
use Rattle.std.specs.List.{starts_with}
use Rattle.std.specs.Option.{option_map_or}
use Rattle.serde_json.specs.Data.{Data}
use Rattle.serde_json.specs.Find.{get}
use Rattle.chi_json.specs.declared.fault.ObjectFault.TheVariants.{NotJson}
use Rattle.chi_reading.specs.Mark.{text_value, without_mark}
use Rattle.chi_reading.specs.Member.{member_name}
use Rattle.chi_reading.specs.declared.member.Member.TheVariants as member
use Rattle.chi_reading.specs.declared.fault.LineFault.{LineFault}
use Rattle.chi_reading.specs.declared.fault.LineFault.TheVariants as line_fault
use Rattle.chi_reading.specs.declared.fault.TraceFault.{TraceFault}
use Rattle.chi_reading.specs.declared.fault.TraceFault.TheVariants as trace_fault

-- an object that has requests, as a trace does, and names no event
abbrev pub is_of_trace : Data → Bool
is_of_trace d = is_some (get (member_name member.Requests) d) && is_none (get (member_name member.Event) d)

-- an object that names an event, and has no requests
abbrev pub is_of_event : Data → Bool
is_of_event d = is_some (get (member_name member.Event) d) && is_none (get (member_name member.Requests) d)

-- an object that names the channel of a flit, and has neither an event nor requests
abbrev pub is_of_flit : Data → Bool
is_of_flit d = is_some (get (codes "channel") d) && is_none (get (member_name member.Event) d) && is_none (get (member_name member.Requests) d)

-- a byte that is blank in JSON: a space, a tab, a line feed or a carriage return
abbrev pub is_blank : ℕ → Bool
is_blank b = b == 32 || b == 9 || b == 10 || b == 13

-- a text that begins as an object does: its first byte that is not blank is `{`
abbrev pub begins_object : List ℕ → Bool
begins_object text = option_map_or (λ b. b == 123) (find (λ b. not (is_blank b)) text) false

-- a text that is compressed by gzip: it begins with the bytes 1f and 8b
abbrev pub is_compressed : List ℕ → Bool
is_compressed text = starts_with nat_eq text (31 ∷ 139 ∷ [])

-- why a first line that has no value tells no event
abbrev pub unread_first : List ℕ → LineFault
unread_first text = if begins_object text then line_fault.NotWhole else if is_compressed text then line_fault.Compressed else line_fault.Object NotJson

-- the same of the line with this number
abbrev pub unread_line : ℕ → List ℕ → LineFault
unread_line number text = if number == 1 then unread_first (without_mark text) else line_fault.Object NotJson

-- the first line of a text, without its line feed: up to where that is, or all of it where it has none
abbrev pub up_to : Option ℕ → List ℕ → List ℕ
up_to None text = text
up_to (Some end) text = take end text

abbrev pub first_line : List ℕ → List ℕ
first_line text = up_to (position (λ b. b == 10) text) text

-- a text whose first line is an object that names an event, and one whose first line names a channel
abbrev pub begins_with : (Data → Bool) → List ℕ → Bool
begins_with test text = option_map_or test (text_value (first_line text)) false

-- why a text that has no value is no trace
abbrev pub unread_text : List ℕ → TraceFault
unread_text text =
    if begins_with is_of_event text then trace_fault.OfEvents else if begins_with is_of_flit text then trace_fault.OfFlits
    else if is_compressed text then trace_fault.Compressed else trace_fault.Object NotJson
