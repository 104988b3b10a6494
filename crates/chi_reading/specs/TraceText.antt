-- the trace that a text is, or its first fault
use Rattle.std.specs.Prelude.{◌≡◌, ℕ, ◌-◌, ◌/◌, ◌^◌, if◌then◌else◌, List, [], ◌∷◌, filter, IsPermutation, Option, None, Some, is_some, option_map, option_to_list, Result, Ok, Err}
use Rattle.std.specs.Option.{ok_or}
use Rattle.serde_json.specs.Data.{Data, Members}
use Rattle.serde_json.specs.Find.{as_array, as_object, get}
use Rattle.chi_fields.specs.Extent.{Extent, region_of}
use Rattle.chi_fields.specs.declared.refusal.Refusal.{Refusal}
use Rattle.chi_json.specs.Members.{◌>>=◌, member_by, number_of, opening_words, or_else, stated_words}
use Rattle.chi_json.specs.Unknown.{unknown_in}
use Rattle.chi_trace.specs.AtPlaces.{is_in}
use Rattle.chi_trace.specs.declared.words.GranuleWord.{GranuleWord}
use Rattle.chi_trace.specs.Traces.{TraceValue, trace_at}
use Rattle.chi_trace.specs.Words.{find_word}
use Rattle.chi_reading.specs.declared.member.Member.TheVariants as member
use Rattle.chi_reading.specs.Mark.{text_value}
use Rattle.chi_reading.specs.Member.{member_name, trace_members}
use Rattle.chi_reading.specs.declared.memory.Memory.{Memory}
use Rattle.chi_reading.specs.declared.fault.TraceFault.{TraceFault}
use Rattle.chi_json.specs.declared.fault.ObjectFault.TheVariants.{NotObject, UnknownMember}
use Rattle.chi_reading.specs.declared.fault.TraceFault.TheVariants.{Object, OfEvents, OfFlits, RegionRefused}
use Rattle.chi_reading.specs.Faults.{faultless, of_trace}
use Rattle.chi_reading.specs.OtherKind.{is_of_event, is_of_flit, unread_text}
use Rattle.chi_reading.specs.Requests.{Completed, all_completed}
use Rattle.chi_reading.specs.Told.{region_words, stated_list}

-- What a text says of the memory: a region, or all addresses; the words of its granules at the opening, where they are told,
-- and at the end.
pub record MemoryText : Type 0 where
  pub region : Option Extent
  pub opening : List GranuleWord
  pub final_words : List GranuleWord

-- the words at the end that a region's text may tell
abbrev pub region_final_words : ℕ → Option (List ℕ) → List GranuleWord
region_final_words first None = []
region_final_words first (Some words) = region_words first words

-- of a region: its base, how many granules it has, and their words
unfoldable pub region_memory : Data → Result MemoryText TraceFault
region_memory d = do
  base ← or_else (of_trace d) (number_of member_name member.Base (2 ^ 64 - 1) d)
  granules ← or_else (of_trace d) (number_of member_name member.Granules 65535 d)
  region ← or_else RegionRefused (region_of base granules)
  image ← or_else (of_trace d) (opening_words member_name member.Image granules d)
  final_words ← or_else (of_trace d) (stated_words member_name member.Final granules d)
  Ok (record { region = Some region; opening = region_words (base / 8) image; final_words = region_final_words (base / 8) final_words })

-- of all addresses: the words of some granules
unfoldable pub wide_memory : Data → Result MemoryText TraceFault
wide_memory d = do
  opening ← or_else (of_trace d) (stated_list member.Image d)
  final_words ← or_else (of_trace d) (stated_list member.Final d)
  Ok (record { region = None; opening = opening; final_words = final_words })

-- the memory is a region where its number of granules is told
abbrev pub memory_text : Data → Result MemoryText TraceFault
memory_text d = if is_some (get (member_name member.Granules) d) then region_memory d else wide_memory d

-- what a text says: the memory, and the requests with the operation that was observed of each, or why it was refused
pub record TextValue : Type 0 where
  pub memory : MemoryText
  pub completed : Completed

unfoldable pub object_text : Data → Members → Result TextValue TraceFault
object_text d members = do
  memory ← memory_text d
  listed ← or_else (of_trace d) (member_by member_name member.Requests as_array d)
  elements ← faultless (λ name. Object (UnknownMember name)) (unknown_in member_name (trace_members ∷ []) members) listed
  completed ← all_completed memory.region elements
  Ok (record { memory = memory; completed = completed })

-- the trace that a text is, or the first fault
unfoldable pub trace_text : List ℕ → Result TextValue TraceFault
trace_text text = do
  d ← ok_or (text_value text) (unread_text text)
  members ← ok_or (as_object d) (Object NotObject)
  if is_of_event d then Err OfEvents else if is_of_flit d then Err OfFlits else object_text d members

-- A trace that was read: its operations in the order of their starts, each with the place of its request in the text as its
-- number, counted from 0; and why its other requests were refused, in the order of the text.
pub record RecordedValue : Type 0 where
  pub region : Option Extent
  pub trace : TraceValue
  pub final_words : List GranuleWord
  pub refusals : List Refusal

-- What had happened by a time. No words are told at the end, and no refusals, whose times are not kept.
abbrev pub cut_at : ℕ → RecordedValue → RecordedValue
cut_at time r = record r { trace = trace_at time r.trace; final_words = []; refusals = [] }

-- the word that is told of one granule, alone
abbrev pub only : ℕ → List GranuleWord → List GranuleWord
only g words = option_to_list (option_map (λ w. record { granule = g; word = w }) (find_word words g))

-- One granule's part of a trace, over all addresses: its operations, and its words at the opening and at the end. Of refused requests
-- nothing is kept.
abbrev pub alone : ℕ → RecordedValue → RecordedValue
alone g r = record {
  region = None;
  trace = record { opening = only g r.trace.opening; operations = filter (is_in g) r.trace.operations };
  final_words = only g r.final_words;
  refusals = [];
}

-- the memory that was read is what the text says
pub record IsMemoryOf (t : MemoryText) (m : Memory) : Type 0 where
  pub region : m.region ≡ t.region
  pub opening : (g : ℕ) → find_word m.opening g ≡ find_word t.opening g
  pub final_words : (g : ℕ) → find_word m.final_words g ≡ find_word t.final_words g

-- The trace that was read is what the text says: its operations, in some order; why the other requests were refused; and the same words of granules.
pub record IsOf (t : TextValue) (r : RecordedValue) : Type 0 where
  pub region : r.region ≡ t.memory.region
  pub opening : (g : ℕ) → find_word r.trace.opening g ≡ find_word t.memory.opening g
  pub final_words : (g : ℕ) → find_word r.final_words g ≡ find_word t.memory.final_words g
  pub operations : IsPermutation t.completed.operations r.trace.operations
  pub refusals : r.refusals ≡ t.completed.refusals
