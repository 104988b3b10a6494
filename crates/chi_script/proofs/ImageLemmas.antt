-- the bytes of an image's words
use Rattle.std.proofs.Common.{◌≡◌, ℕ, ◌+◌, ◌*◌, ◌/◌, ◌%◌, ◌<◌, List, length, drop, slice_index, sym, ap, ◌∙◌, arith, get_or-take, get_or-drop}
use Rattle.chi_lanes.specs.Bytes.{AreBytes}
use Rattle.chi_lanes.proofs.MaskedBytes.{slice_index-little_bytes}
use Rattle.chi_history.specs.History.{image_byte}
use Rattle.chi_json.specs.Values.{words_of}
use Rattle.chi_json.proofs.WordLemmas.{AreDecoded-decode_sized, length-words_of, little_bytes-words_of}
use Rattle.chi_script.specs.ImageLaws.{ImageHasBytes}

-- a byte of the words
image_byte-words_of : (bytes : List ℕ) (i : ℕ) → AreBytes bytes → i < 8 * (length bytes / 8) → image_byte (words_of bytes) i ≡ slice_index bytes i
image_byte-words_of bytes i are inside =
    let under : i / 8 < length bytes / 8 = omega arith in
    let below : i % 8 < 8 = omega arith in
    let at : 8 * (i / 8) + i % 8 ≡ i = omega arith in
    sym (slice_index-little_bytes 8 (slice_index (words_of bytes) (i / 8)) (i % 8) below)
    ∙ (ap (λ (bs : List ℕ). slice_index bs (i % 8)) (little_bytes-words_of bytes (i / 8) are under)
    ∙ (get_or-take 8 (drop (8 * (i / 8)) bytes) (i % 8) 0 below
    ∙ (get_or-drop (8 * (i / 8)) bytes (i % 8) 0 ∙ ap (slice_index bytes) at)))

-- the words of a decoded text are as many as its granules, and have its bytes
pub words_have_bytes : ImageHasBytes
words_have_bytes granules text bytes read =
    let is = AreDecoded-decode_sized text (8 * granules) bytes read in
    let count : length bytes ≡ 8 * granules = is.0 in
    let words : length bytes / 8 ≡ granules = omega arith in
    (length-words_of bytes ∙ words, λ i inside. image_byte-words_of bytes i is.1 (rw words inside))
