-- the text's region and words, and that the words are theirs
use Rattle.std.proofs.Common.{◌≡◌, ℕ, ◌/◌, List, Option, refl, sym, ◌∙◌}
use Rattle.std.specs.Option.{option_map}
use Rattle.chi_json.proofs.WalkLemmas.{at_ok, no_fault}
use Rattle.chi_trace.specs.Words.{find_word}
use Rattle.chi_reading.specs.TraceText.{region_final_words}
use Rattle.chi_reading.proofs.RegionText.{region_text}
use Rattle.chi_reading.proofs.memory.region_memory.Goals as goal
use Rattle.chi_reading.proofs.memory.region_memory.Goals.{After-drop-image-2, in-Some+in_ok-final_words-in-Some, in-None}

abbrev last_words : After-drop-image-2 → Option (List ℕ)
last_words c = option_map (λ words. words.items) c.in_ok-final_words.final_words

final_words : (c : After-drop-image-2) → (g : ℕ) → find_word c.match-final_words-2.final_words g ≡ find_word (region_final_words (c.in_ok-base.base / 8) (last_words c)) g
final_words c g = elim c.match-final_words-2.branch [
  | in-Some+in_ok-final_words-in-Some w ↦ rw (w.final_words-is, w.in-Some.is, ← w.deref-in-Some.ensures.value) (w.in_ok-final_words-in-Some.ensures g)
  | in-None w ↦ rw (w.final_words-is, w.in-None.is, w.none-final_words.ensures) refl
]

pub returns-clause-ok : goal.returns-clause-ok
returns-clause-ok c =
    let base = sym c.number.ensures.value ∙ no_fault _ _ _ c.in_ok-base.ensures in
    let granules = sym c.number-2.ensures.value ∙ no_fault _ _ _ c.in_ok-granules.ensures in
    let image = at_ok _ _ _ (no_fault _ _ _ c.in_ok-image.ensures) c.opening_words.ensures.ok in
    let finals = at_ok _ _ _ (no_fault _ _ _ c.in_ok-final_words.ensures) c.stated_words.ensures.ok in
    let says = region_text _ c.in_ok-base.base c.in_ok-granules.field-0 c.in-Ok.region c.in_ok-image.image.items (last_words c) base granules (sym c.in-Ok.ensures) image finals in
    (_, says, record { region = refl; opening = λ g. rw (← c.deref.ensures.value) (c.in_ok-opening.ensures g); final_words = final_words c })
