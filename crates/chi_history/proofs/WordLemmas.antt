-- the words that a history leaves in the granules of a region
use Rattle.std.proofs.Common.{◌≡◌, ◌≢◌, ℕ, ◌+◌, ◌-◌, ◌*◌, ◌/◌, ◌%◌, ◌^◌, ◌<◌, ◌≤◌, nat_le, Bool, true, false, not, ◌&&◌, if◌then◌else◌, List, [], ◌∷◌, ◌++◌, slice_index, refl, sym, ap, ◌∙◌, arith, ext_get_or, mod-eq_of_lt}
use Rattle.std.proofs.lemmas.Bool.Decides.{nat_tests}
use Rattle.chi_fields.specs.Extent.{IsRegion, granule_of, lies_in}
use Rattle.chi_fields.specs.Access.{IsLawful}
use Rattle.chi_lanes.specs.After.{after, same_bytes}
use Rattle.chi_lanes.specs.Bytes.{little, little_bytes}
use Rattle.chi_lanes.specs.Memory.{Memory, IsMemory, bytes_from, word, word_at}
use Rattle.chi_lanes.proofs.AfterLemmas.{word-after_other}
use Rattle.chi_lanes.proofs.Digits.{length-little_bytes, little_little_bytes}
use Rattle.chi_lanes.proofs.MaskedBytes.{slice_index-little_bytes}
use Rattle.chi_lanes.proofs.MemoryLemmas.{get_or-bytes_from, length-bytes_from}
use Rattle.chi_lanes.proofs.Operands.{same_bytes-true}
use Rattle.chi_history.specs.declared.entry.Entry.{Entry}
use Rattle.chi_history.specs.declared.opening.Opening.{Opening}
use Rattle.chi_history.specs.NumberSets.{nobody}
use Rattle.chi_history.specs.History.{end, end_from, hits, hits_from, image_byte, one_if, opening_memory}
use Rattle.chi_history.proofs.HistoryLemmas.{end_from-append}

-- the memory of an opening is one
pub IsMemory-opening_memory : (o : Opening) → IsMemory (opening_memory o)
IsMemory-opening_memory o x = by_test (lies_in x 1 o.region)
  where
    by_test : (b : Bool) → (if b then image_byte o.image (x - o.region.base) else 0) < 256
    by_test true = omega arith
    by_test false = omega arith

-- a byte of a granule at the opening
opening_byte : (o : Opening) (g k : ℕ) → g < o.region.granules → k < 8 → opening_memory o (o.region.base + 8 * g + k) ≡ slice_index o.image g / 256 ^ k % 256
opening_byte o g k under below =
    let from : nat_le o.region.base (o.region.base + 8 * g + k) ≡ true = grind (arith, nat_tests) in
    let to : nat_le (o.region.base + 8 * g + k + 1) (o.region.base + 8 * o.region.granules) ≡ true = grind (arith, nat_tests) in
    let granule : (o.region.base + 8 * g + k - o.region.base) / 8 ≡ g = omega arith in
    let byte : (o.region.base + 8 * g + k - o.region.base) % 8 ≡ k = omega arith in
    (λ i. if from i && to i then image_byte o.image (o.region.base + 8 * g + k - o.region.base) else 0) ∙ (λ i. slice_index o.image (granule i) / 256 ^ byte i % 256)

-- the words at the opening are those of the image
pub word-opening_memory : (o : Opening) (g : ℕ) → g < o.region.granules → slice_index o.image g < 2 ^ 64 → word (opening_memory o) o.region g ≡ slice_index o.image g
unfolding word_at
word-opening_memory o g under fits =
    let start : ℕ = o.region.base + 8 * g in
    let run : List ℕ = bytes_from (opening_memory o) start 8 in
    let spelled : run ≡ little_bytes 8 (slice_index o.image g) =
    ext_get_or 0 run (little_bytes 8 (slice_index o.image g))
    (length-bytes_from (opening_memory o) start 8 ∙ sym (length-little_bytes 8 (slice_index o.image g)))
    (λ k inside.
    let below : k < 8 = rw (length-bytes_from (opening_memory o) start 8) at inside in
    get_or-bytes_from (opening_memory o) start 8 k below
    ∙ (opening_byte o g k under below ∙ sym (slice_index-little_bytes 8 (slice_index o.image g) k below))) in
    ap little spelled ∙ (little_little_bytes 8 (slice_index o.image g) ∙ mod-eq_of_lt fits)

-- the memory after one entry more
pub end-snoc : (o : Opening) (h : List Entry) (e : Entry) → end o (h ++ e ∷ []) ≡ after e.access (end o h)
unfolding end_from
end-snoc o h e = end_from-append (opening_memory o) h (e ∷ [])

-- one entry more leaves the word of every granule but its own
pub word-snoc_other : (o : Opening) (h : List Entry) (e : Entry) (g : ℕ) → IsRegion o.region → IsLawful e.access
    → lies_in e.access.addr e.access.len o.region ≡ true → g ≢ granule_of e.access.addr o.region
    → word (end o (h ++ e ∷ [])) o.region g ≡ word (end o h) o.region g
word-snoc_other o h e g is_region lawful fits other =
    ap (λ (m : Memory). word m o.region g) (end-snoc o h e)
    ∙ word-after_other e.access (end o h) o.region g lawful is_region fits other

-- granules of the same bytes have the same word
word-same_bytes : (m n : Memory) (start : ℕ) → same_bytes (bytes_from m start 8) (bytes_from n start 8) ≡ true → word_at m start ≡ word_at n start
unfolding word_at
word-same_bytes m n start same = ap little (same_bytes-true (bytes_from m start 8) (bytes_from n start 8) same)

-- where a word is changed by some entries, one of them changes a byte of its granule
pub differs_from : (o : Opening) (m : Memory) (xs : List Entry) (g : ℕ) → word (end_from m xs) o.region g ≢ word m o.region g
    → 1 ≤ hits_from o m xs g nobody
unfolding end_from hits_from
differs_from o m [] g differ = absurd (differ refl)
differs_from o m (x ∷ xs) g differ = by_test (same_bytes (bytes_from m start 8) (bytes_from (after x.access m) start 8)) refl (differs_from o (after x.access m) xs g)
  where
    start : ℕ
    start = o.region.base + 8 * g

    by_test : (b : Bool) → same_bytes (bytes_from m start 8) (bytes_from (after x.access m) start 8) ≡ b
        → (word (end_from (after x.access m) xs) o.region g ≢ word (after x.access m) o.region g → 1 ≤ hits_from o (after x.access m) xs g nobody)
        → 1 ≤ one_if (not (same_bytes (bytes_from m start 8) (bytes_from (after x.access m) start 8)) && not (nobody x.src)) + hits_from o (after x.access m) xs g nobody
    by_test true same rest =
        let later = rest (λ e. differ (e ∙ sym (word-same_bytes m (after x.access m) start same))) in
        rw same (omega arith)
    by_test false same rest = rw same (omega arith)

-- where what was seen and what is seen now differ in a word, an entry between them changed its granule
pub differs : (o : Opening) (h xs : List Entry) (g : ℕ) → word (end o (h ++ xs)) o.region g ≢ word (end o h) o.region g
    → 1 ≤ hits o h xs g nobody
differs o h xs g differ =
    differs_from o (end o h) xs g (λ e. differ (ap (λ (m : Memory). word m o.region g) (end_from-append (opening_memory o) h xs) ∙ e))
