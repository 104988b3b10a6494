-- a law of images, named by a function whose contract it is
use Rattle.std.specs.Prelude.{◌≡◌, ℕ, ◌*◌, ◌<◌, List, length, slice_index, Ok}
use Rattle.hex.specs.Hex.{decode_sized}
use Rattle.chi_history.specs.History.{image_byte}
use Rattle.chi_json.specs.Values.{words_of}

-- the words of a text of sixteen hex digits for each granule are as many as the granules, and byte i of them, as the
-- memory at the opening has it, is byte i of the text
abbrev pub ImageHasBytes : Type 0
ImageHasBytes = (granules : ℕ) (text bytes : List ℕ) → decode_sized text (8 * granules) ≡ Ok bytes
    → (length (words_of bytes) ≡ granules) × ((i : ℕ) → i < 8 * granules → image_byte (words_of bytes) i ≡ slice_index bytes i)
