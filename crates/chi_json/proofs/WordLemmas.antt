-- the words of an image, and the bytes of each
use Rattle.std.proofs.Common.{◌≡◌, ℕ, zero, suc, ◌+◌, ◌*◌, ◌/◌, ◌^◌, ◌<◌, ◌≤◌, List, [], ◌∷◌, ◌++◌, length, get_or, take, drop, slice_index, Option, None, Some, IfSome, Result, Ok, Err, refl, sym, ap, ◌∙◌, arith, w64, mod-eq_of_lt, mul-zero, drop-drop, length-drop, length-take-le}
use Rattle.std.proofs.lemmas.List.{get_or-map, length-map, map_more}
use Rattle.std.specs.Int.{from_le_bytes}
use Rattle.std.specs.Option.{option_map}
use Rattle.std.specs.Prelude.{map, option_and_then}
use Rattle.std.specs.Result.{result_ok}
use Rattle.std.specs.Simd.{first_chunks}
use Rattle.hex.specs.Hex.{decode_sized}
use Rattle.hex.specs.declared.error.FromHexError.{FromHexError}
use Rattle.hex.proofs.HexLemmas.{decode_of-ok, decode_sized-ok, decode_sized-twice}
use Rattle.serde_json.specs.Data.{Data}
use Rattle.serde_json.specs.Find.{as_str}
use Rattle.chi_lanes.specs.Bytes.{AreBytes, little, little_bytes}
use Rattle.chi_lanes.proofs.ByteLists.{AreBytes-take, AreBytes-drop}
use Rattle.chi_lanes.proofs.Digits.{little_bytes_little, little_little_bytes}
use Rattle.chi_lanes.proofs.StdBytes.{from_le_bytes_is}
use Rattle.chi_json.specs.Values.{hex_bytes, image_of, words_of}

-- eight bytes
abbrev IsChunk : List ℕ → Type 0
IsChunk bs = (length bs ≡ 8) × AreBytes bs

-- the number that is read from eight bytes is theirs
pub from_le_bytes-little : (bs : List ℕ) (n : ℕ) → length bs ≡ 8 → AreBytes bs → n < 2 ^ 64 → n ≡ from_le_bytes w64 bs → n ≡ little bs
from_le_bytes-little bs n count are fits read =
    sym (mod-eq_of_lt fits) ∙ (sym (little_little_bytes 8 n) ∙ ap little (from_le_bytes_is bs n count are read))

-- there are so many chunks
length-first_chunks : (n k : ℕ) (xs : List ℕ) → length (first_chunks n k xs) ≡ k
length-first_chunks n zero xs = refl
length-first_chunks n (suc k) xs = ap suc (length-first_chunks n k (drop n xs))

-- one of the chunks
get_or-first_chunks : (n k : ℕ) (xs : List ℕ) (g : ℕ) (d : List ℕ) → g < k → get_or (first_chunks n k xs) g d ≡ take n (drop (n * g) xs)
get_or-first_chunks n zero xs g d below = absurd (omega arith)
get_or-first_chunks n (suc k) xs zero d below = rw mul-zero refl
get_or-first_chunks n (suc k) xs (suc g) d below =
    let rest : g < k = omega arith in
    let at : n + n * g ≡ n * suc g = omega arith in
    get_or-first_chunks n k (drop n xs) g d rest ∙ ap (take n) (drop-drop (n * g) n xs ∙ ap (λ (i : ℕ). drop i xs) at)

-- a chunk is of eight bytes
IsChunk-first_chunks : (bytes : List ℕ) (g : ℕ) (d : List ℕ) → AreBytes bytes → g < length bytes / 8
    → IsChunk (get_or (first_chunks 8 (length bytes / 8) bytes) g d)
IsChunk-first_chunks bytes g d are under =
    let room : 8 ≤ length (drop (8 * g) bytes) = rw length-drop (omega arith) in
    rw (get_or-first_chunks 8 (length bytes / 8) bytes g d under)
    (length-take-le 8 (drop (8 * g) bytes) room, AreBytes-take 8 (drop (8 * g) bytes) (AreBytes-drop (8 * g) bytes are))

-- the number that is read from a chunk follows the words before it
pub words_more : (bytes : List ℕ) (chunks : List (List ℕ)) (g n : ℕ) (d : List ℕ)
    → chunks ≡ first_chunks 8 (length bytes / 8) bytes → AreBytes bytes → g < length chunks → n < 2 ^ 64 → n ≡ from_le_bytes w64 (get_or chunks g d)
    → map little (take g chunks) ++ n ∷ [] ≡ map little (take (g + 1) chunks)
words_more bytes chunks g n d are_chunks are inside fits read =
    let under : g < length bytes / 8 = rw (are_chunks, length-first_chunks 8 (length bytes / 8) bytes) at inside in
    let chunk : IsChunk (get_or chunks g d) = rw are_chunks (IsChunk-first_chunks bytes g d are under) in
    ap (λ (m : ℕ). map little (take g chunks) ++ m ∷ []) (from_le_bytes-little (get_or chunks g d) n chunk.0 chunk.1 fits read)
    ∙ sym (map_more little chunks g d inside)

-- a word for each eight bytes
pub length-words_of : (bytes : List ℕ) → length (words_of bytes) ≡ length bytes / 8
length-words_of bytes = length-map (first_chunks 8 (length bytes / 8) bytes) little ∙ length-first_chunks 8 (length bytes / 8) bytes

-- the eight bytes of a word
pub little_bytes-words_of : (bytes : List ℕ) (g : ℕ) → AreBytes bytes → g < length bytes / 8
    → little_bytes 8 (slice_index (words_of bytes) g) ≡ take 8 (drop (8 * g) bytes)
little_bytes-words_of bytes g are under =
    let chunks : List (List ℕ) = first_chunks 8 (length bytes / 8) bytes in
    let chunk : IsChunk (get_or chunks g []) = IsChunk-first_chunks bytes g [] are under in
    let inside : g < length chunks = rw (length-first_chunks 8 (length bytes / 8) bytes) under in
    ap (little_bytes 8) (get_or-map little chunks g [] 0 inside)
    ∙ (ap (λ (n : ℕ). little_bytes n (little (get_or chunks g []))) (sym chunk.0)
    ∙ (little_bytes_little (get_or chunks g []) chunk.1 ∙ get_or-first_chunks 8 (length bytes / 8) bytes g [] under))

-- so many bytes
abbrev pub AreDecoded : ℕ → List ℕ → Type 0
AreDecoded n bytes = (length bytes ≡ n) × AreBytes bytes

-- a decoded text has so many bytes
pub AreDecoded-decode_sized : (text : List ℕ) (n : ℕ) (bytes : List ℕ) → decode_sized text n ≡ Ok bytes → AreDecoded n bytes
AreDecoded-decode_sized text n bytes read =
    let digits : length text ≡ 2 * n = decode_sized-ok text n bytes read in
    let ok = decode_of-ok text bytes (sym (decode_sized-twice text n digits) ∙ read) in
    let pairs = ok.2 in (omega (arith, pairs), ok.3)

-- so has a value that is such a text
pub AreDecoded-hex_bytes : (n : ℕ) (d : Data) → IfSome (hex_bytes n d) (AreDecoded n)
AreDecoded-hex_bytes n d = texted (as_str d)
  where
    decoding : (text : List ℕ) (r : Result (List ℕ) FromHexError) → decode_sized text n ≡ r → IfSome (result_ok r) (AreDecoded n)
    decoding text (Ok bytes) read = AreDecoded-decode_sized text n bytes read
    decoding text (Err fault) read = tt

    texted : (text : Option (List ℕ)) → IfSome (option_and_then (λ s. result_ok (decode_sized s n)) text) (AreDecoded n)
    texted None = tt
    texted (Some text) = decoding text (decode_sized text n) refl

-- an image has a word for each granule
pub length-image_of : (granules : ℕ) (d : Data) (words : List ℕ) → image_of granules d ≡ Some words → length words ≡ granules
length-image_of granules d words is = by_bytes (hex_bytes (8 * granules) d) (AreDecoded-hex_bytes (8 * granules) d) is
  where
    by_bytes : (bytes : Option (List ℕ)) → IfSome bytes (AreDecoded (8 * granules)) → option_map words_of bytes ≡ Some words → length words ≡ granules
    by_bytes None are e = cc e
    by_bytes (Some bytes) are e =
        let same : words_of bytes ≡ words = cc e in
        let count : length bytes ≡ 8 * granules = are.0 in
        let words : length bytes / 8 ≡ granules = omega arith in
        rw (← same) (length-words_of bytes ∙ words)
