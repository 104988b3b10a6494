-- the run of a script that is read
use Rattle.std.proofs.Common.{◌≡◌, ℕ, zero, suc, ◌+◌, ◌-◌, ◌^◌, ◌<◌, ◌≤◌, List, [], ◌∷◌, All, length, Option, IfSome, Result, Ok, Err, refl, sym, ap, subst, ◌∙◌, arith}
use Rattle.std.proofs.lemmas.List.Elements.{All-cons, All-head, All-nil, All-tail}
use Rattle.std.specs.List.{range_with_len}
use Rattle.std.specs.List.Sorted.{IsPermutation}
use Rattle.std.specs.Prelude.{map}
use Rattle.serde_json.specs.Events.{items_len}
use Rattle.serde_json.specs.View.{items_of}
use Rattle.chi_fields.specs.Access.{Access}
use Rattle.chi_fields.specs.Extent.{Extent, IsRegion}
use Rattle.chi_fields.specs.Refusal.{decision}
use Rattle.chi_fields.specs.declared.refusal.Refusal.{Refusal}
use Rattle.chi_fields.specs.declared.request.Request.{Request}
use Rattle.chi_lanes.specs.After.{after}
use Rattle.chi_lanes.specs.Memory.{IsMemory, Memory, word_at}
use Rattle.chi_lanes.proofs.AfterLemmas.{IsMemory-after}
use Rattle.chi_lanes.proofs.MemoryLemmas.{word_at-below}
use Rattle.chi_history.specs.History.{one_if, opening_memory}
use Rattle.chi_history.specs.Lines.{serial_after, serial_end}
use Rattle.chi_history.proofs.WordLemmas.{IsMemory-opening_memory}
use Rattle.chi_trace.specs.declared.operation.Operation.{Operation}
use Rattle.chi_trace.specs.Explains.{Explains, IsTrace, at, is_place, times_in, word_of}
use Rattle.chi_trace.specs.Words.{find_word, memory_of}
use Rattle.chi_trace.proofs.ToldAgain.{lifted, times_permuted}
use Rattle.chi_script.specs.RunText.{granule_words}
use Rattle.chi_script.specs.Script.{IsWritable, ScriptValue}
use Rattle.chi_script.proofs.GranuleWords.{length-granule_words}
use Rattle.chi_engine.specs.Store.{opening_of, requester_count}
use Rattle.chi_engine.specs.Trace.{final_words_of, lines_of}
use Rattle.chi_run_laws.specs.Executed.{executed}
use Rattle.chi_run_laws.specs.RunLaws.{RunIsExplained, RunIsReadInOrder, TraceOfRunIsRead}
use Rattle.chi_run_laws.proofs.Accepted.{lawful}
use Rattle.chi_run_laws.proofs.Bounds.{IsImage, IsSound, script_sound}
use Rattle.chi_run_laws.proofs.Elements.{count_of_data, requests_read}
use Rattle.chi_run_laws.proofs.Executions.{explained, ran_apart}
use Rattle.chi_run_laws.proofs.Memory.{ending_is, memory_is}
use Rattle.chi_run_laws.proofs.Order.{all_chosen, in_order}
use Rattle.chi_run_laws.proofs.Ranges.{once_in_order}
use Rattle.chi_run_laws.proofs.Texts.{read_value, text_reads}

-- the memory that requests leave is one of bytes
end_is_memory : (region : Extent) → IsRegion region → (qs : List Request) (m : Memory) → IsMemory m → All IsWritable qs → IsMemory (serial_end region qs m)
unfolding serial_end
end_is_memory region is [] m is_m writable = is_m
end_is_memory region is (q ∷ qs) m is_m writable = by_decision (decision q region) refl (λ m' is_m'. end_is_memory region is qs m' is_m' (All-tail IsWritable q qs writable))
  where
    by_decision : (r : Result Access Refusal) → decision q region ≡ r → ((m' : Memory) → IsMemory m' → IsMemory (serial_end region qs m'))
        → IsMemory (serial_end region qs (serial_after (decision q region) m))
    by_decision (Ok a) decided later =
        subst (λ (d : Result Access Refusal). IsMemory (serial_end region qs (serial_after d m))) (sym decided)
        (later (after a m) (IsMemory-after a m is_m (lawful region q a is (All-head IsWritable q qs writable) decided)))
    by_decision (Err refusal) decided later =
        subst (λ (d : Result Access Refusal). IsMemory (serial_end region qs (serial_after d m))) (sym decided) (later m is_m)

-- the words of a memory of bytes
words_fit : (m : Memory) → IsMemory m → (start n : ℕ) → All (λ word. word < 2 ^ 64) (granule_words m start n)
unfolding granule_words
words_fit m is_m start zero = All-nil (λ (word : ℕ). word < 2 ^ 64)
words_fit m is_m start (suc n) = All-cons (λ (word : ℕ). word < 2 ^ 64) (word_at m start) (granule_words m (start + 8) n) (word_at-below m is_m start) (words_fit m is_m (start + 8) n)

-- the memory at the opening of a script
abbrev start : ScriptValue → Memory
start s = opening_memory (opening_of s)

final_sound : (s : ScriptValue) → IsSound s → IsImage s.region.granules (final_words_of s)
final_sound s sound =
    let left : Memory = serial_end s.region s.requests (start s) in
    let is_m : IsMemory left = end_is_memory s.region sound.region s.requests (start s) (IsMemory-opening_memory (opening_of s)) sound.requests in
    record { count = length-granule_words left s.region.base s.region.granules; fit = words_fit left is_m s.region.base s.region.granules }

pub trace_is_read : TraceOfRunIsRead
trace_is_read input text s read value =
    let sound = script_sound input s read in
    let within : 0 + length s.requests ≤ 2 ^ 64 - 1 = omega (arith, sound.few) in
    let elements = requests_read s.region sound.region s.requests 0 (start s) (IsMemory-opening_memory (opening_of s)) sound.requests within in
    let count = count_of_data s.region s.requests 0 (start s) in
    let few : items_len (items_of _) ≤ 1048576 = omega (arith, count, sound.few) in (
      read_value s.region s.image (final_words_of s) elements.completed,
      text_reads s.region s.image (final_words_of s) (lines_of s) elements.completed text sound.region sound.image (final_sound s sound) few elements.read value,
      record { region = refl; opening = refl; final_words = refl; operations = elements.operations; refusals = elements.refusals },
    )

pub read_in_order : RunIsReadInOrder
read_in_order s t r is recorded sorted =
    let ops : List Operation = executed (lines_of s) in
    let places : List ℕ = range_with_len 0 (length ops) in
    let moved : IsPermutation (map (at ops) places) r.trace.operations =
    subst (λ (l : List Operation). IsPermutation l r.trace.operations) (is.operations ∙ sym (all_chosen [] ops)) recorded.operations in
    let own = lifted (at ops) places r.trace.operations moved in
    let each : (i : ℕ) → times_in own.0 i ≡ one_if (is_place ops i) = λ i. times_permuted places own.0 i own.2 ∙ once_in_order (length ops) i in
    sym own.1 ∙ in_order ops own.0 (ran_apart s.region s.requests 0 (start s)) each (subst IsTrace (sym own.1) sorted)

pub is_explained : RunIsExplained
is_explained input s t r read is recorded sorted =
    let sound = script_sound input s read in
    let ops : List Operation = executed (lines_of s) in
    let left : Memory = serial_end s.region s.requests (start s) in
    let order : List ℕ = range_with_len 0 (length ops) in
    let ending : (g : ℕ) → IfSome (find_word r.final_words g) (λ w. word_of left g ≡ w) =
    λ g. subst (λ (o : Option ℕ). IfSome o (λ w. word_of left g ≡ w)) (sym (recorded.final_words g ∙ ap (λ words. find_word words g) is.final_words)) (ending_is left s.region g sound.region) in
    let opening : start s ≡ memory_of r.trace.opening =
    memory_is s.region requester_count s.image r.trace.opening sound.region sound.image.count (λ g. recorded.opening g ∙ ap (λ words. find_word words g) is.opening) in
    let by_memory : Explains (start s) (find_word r.final_words) ops order = explained s.region s.requests (start s) (find_word r.final_words) ending in
    let by_words : Explains (memory_of r.trace.opening) (find_word r.final_words) ops order = subst (λ (m : Memory). Explains m (find_word r.final_words) ops order) opening by_memory in
    (order, subst (λ (l : List Operation). Explains (memory_of r.trace.opening) (find_word r.final_words) l order) (sym (read_in_order s t r is recorded sorted)) by_words)
