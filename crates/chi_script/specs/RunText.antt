-- the transcript of a run: requests executed one after another, and the memory after them
use Rattle.std.specs.Prelude.{ℕ, zero, suc, ◌+◌, List, [], ◌∷◌, ◌++◌}
use Rattle.chi_fields.specs.declared.request.Request.{Request}
use Rattle.chi_fields.specs.Extent.{Extent}
use Rattle.chi_lanes.specs.Memory.{Memory, word_at}
use Rattle.chi_history.specs.Lines.{serial, serial_end}
use Rattle.chi_script.specs.Transcript.{granules_text, text}

-- the words of so many granules from an address on
unfoldable pub granule_words : Memory → ℕ → ℕ → List ℕ
granule_words m start zero = []
granule_words m start (suc n) = word_at m start ∷ granule_words m (start + 8) n

-- the memory lines of a region
abbrev pub memory_text : Extent → Memory → List ℕ
memory_text region m = granules_text region.base (granule_words m region.base region.granules)

-- the lines of the requests, executed in order from a memory on, and the memory lines after them
abbrev pub run_text : Extent → List Request → Memory → List ℕ
run_text region requests start = text (serial region requests start) ++ memory_text region (serial_end region requests start)
