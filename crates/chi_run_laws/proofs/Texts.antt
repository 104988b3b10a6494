-- the text of a run's trace, as it is read
use Rattle.std.proofs.Common.{◌≡◌, ℕ, ◌-◌, ◌/◌, ◌^◌, ◌≤◌, nat_lt, false, List, Some, Ok, refl, arith}
use Rattle.std.proofs.lemmas.Bool.{le-ltb}
use Rattle.serde_json.specs.Events.{items_len}
use Rattle.serde_json.specs.View.{items_of}
use Rattle.chi_fields.specs.Extent.{Extent, IsRegion, region_of}
use Rattle.chi_history.specs.declared.line.Line.{Line}
use Rattle.chi_json.specs.Members.{number_of, opening_words, stated_words}
use Rattle.chi_json.proofs.ObjectLemmas.{number_here}
use Rattle.chi_json.specs.Object.{with_array, with_bytes, with_number}
use Rattle.chi_json.specs.Values.{json_value}
use Rattle.chi_reading.specs.Member.{member_name}
use Rattle.chi_reading.specs.Requests.{Completed, all_completed, completed_of}
use Rattle.chi_reading.specs.Told.{region_words}
use Rattle.chi_reading.specs.TraceText.{TextValue, object_text, trace_text}
use Rattle.chi_json.specs.Unknown.{is_known, unknown_in}
use Rattle.chi_reading.specs.declared.member.Member.TheVariants.{Base, Granules, Image, Final}
use Rattle.chi_engine.specs.Trace.{lines_data, trace_data}
use Rattle.chi_run_laws.proofs.Bounds.{IsImage}
use Rattle.chi_run_laws.proofs.Words.{words_of-word_bytes, words_read_back}
use Rattle.chi_reading.proofs.RegionText.{region_text}

region_here : (r : Extent) → IsRegion r → region_of r.base r.granules ≡ Ok r
region_here r is = grind (arith)

-- the words of a member that was made of them
opening_here : (region : Extent) (image words : List ℕ) (lines : List Line) → IsImage region.granules image
    → opening_words member_name Image region.granules (trace_data region image words lines) ≡ Ok image
unfolding opening_words stated_words trace_data with_array with_bytes with_number
opening_here region image words lines is = rw (words_read_back image region.granules is.count, words_of-word_bytes image is.fit) refl

final_here : (region : Extent) (image words : List ℕ) (lines : List Line) → IsImage region.granules words
    → stated_words member_name Final region.granules (trace_data region image words lines) ≡ Ok (Some words)
unfolding stated_words trace_data with_array with_bytes with_number
final_here region image words lines is = rw (words_read_back words region.granules is.count, words_of-word_bytes words is.fit) refl

base_here : (region : Extent) (image words : List ℕ) (lines : List Line) → IsRegion region → number_of member_name Base (2 ^ 64 - 1) (trace_data region image words lines) ≡ Ok region.base
unfolding trace_data with_array with_bytes with_number
base_here region image words lines is = number_here member_name Base (2 ^ 64 - 1) region.base (trace_data region image words lines) refl (omega (arith, is.end))

granules_here : (region : Extent) (image words : List ℕ) (lines : List Line) → IsRegion region → number_of member_name Granules 65535 (trace_data region image words lines) ≡ Ok region.granules
unfolding trace_data with_array with_bytes with_number
granules_here region image words lines is = number_here member_name Granules 65535 region.granules (trace_data region image words lines) refl (omega (arith, is.most))

-- what is read of the text
abbrev pub read_value : Extent → List ℕ → List ℕ → Completed → TextValue
read_value region image words completed = record {
  memory = record { region = Some region; opening = region_words (region.base / 8) image; final_words = region_words (region.base / 8) words };
  completed = completed;
}

pub text_reads : (region : Extent) (image words : List ℕ) (lines : List Line) (completed : Completed) (text : List ℕ) → IsRegion region → IsImage region.granules image
    → IsImage region.granules words → items_len (items_of (lines_data lines)) ≤ 1048576 → completed_of 0 (Some region) (items_of (lines_data lines)) ≡ Ok completed
    → json_value text ≡ Some (trace_data region image words lines) → trace_text text ≡ Ok (read_value region image words completed)
unfolding trace_text object_text all_completed unknown_in is_known trace_data with_array with_bytes with_number
text_reads region image words lines completed text is imaged ended few read value =
    let memory = region_text (trace_data region image words lines) region.base region.granules region image (Some words) (base_here region image words lines is)
    (granules_here region image words lines is) (region_here region is) (opening_here region image words lines imaged) (final_here region image words lines ended) in
    let within : nat_lt 1048576 (items_len (items_of (lines_data lines))) ≡ false = le-ltb 1048576 (items_len (items_of (lines_data lines))) few in
    rw (value, memory, within, read) refl
