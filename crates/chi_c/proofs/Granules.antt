-- the granule of an operand that was accepted, among those of its region
use Rattle.std.proofs.Common.{◌≡◌, ◌≢◌, ℕ, ◌+◌, ◌*◌, ◌%◌, ◌<◌, ◌≤◌, inl, inr, List, length, slice_set, slice_index, sym, ◌∙◌, arith}
use Rattle.std.proofs.lemmas.Bool.{and_parts, cases_eq, leb-true}
use Rattle.std.proofs.lemmas.List.{get_or-set_same, get_or-set_other, length-set}
use Rattle.chi_fields.specs.Extent.{Extent, granule_of}
use Rattle.chi_fields.specs.Access.{Access}
use Rattle.chi_lanes.specs.After.{after}
use Rattle.chi_lanes.specs.Memory.{Memory, granule_start, word, word_at}
use Rattle.chi_lanes.proofs.AfterLemmas.{word-after_other}
use Rattle.chi_c.specs.Call.{AreWords, IsAccepted}

-- the granule of an operand starts where its address says
pub start_of_granule : (e : Extent) (o : Access) → IsAccepted e o → e.base + 8 * granule_of o.addr e ≡ granule_start o.addr
start_of_granule e o accepted =
    let above : e.base ≤ o.addr = leb-true e.base o.addr (and_parts _ _ accepted.fits).0 in
    let line : e.base % 64 ≡ 0 = accepted.is.line in
    omega arith

-- one of a memory's words
pub word-AreWords : (m : Memory) (base : ℕ) (words : List ℕ) (g : ℕ) → AreWords m base words → g < length words
    → slice_index words g ≡ word_at m (base + 8 * g)
unfolding AreWords
word-AreWords m base words g are below = are g below

-- the words with that of the operand's granule are those of the memory after the access
pub AreWords-after : (e : Extent) (o : Access) (m : Memory) (words : List ℕ) (g v : ℕ) → IsAccepted e o → AreWords m e.base words
    → g ≡ granule_of o.addr e → v ≡ word (after o m) e g → AreWords (after o m) e.base (slice_set words g v)
unfolding AreWords
AreWords-after e o m words g v accepted are at made k below =
    let inside : k < length words = rw (length-set words g v) at below in
    elim (cases_eq k g) [
      | inl same ↦ rw same (get_or-set_same words g v 0 (rw same at inside) ∙ made)
      | inr other ↦
          let elsewhere : k ≢ granule_of o.addr e = λ same. other (same ∙ sym at) in
          get_or-set_other words g k v 0 other ∙ are k inside ∙ sym (word-after_other o m e k accepted.lawful accepted.is accepted.fits elsewhere)
    ]
