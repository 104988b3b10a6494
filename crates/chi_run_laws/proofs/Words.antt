-- words of granules that are read as they were written
use Rattle.std.proofs.Common.{◌≡◌, ℕ, zero, suc, ◌+◌, ◌*◌, ◌/◌, ◌^◌, ◌<◌, List, [], ◌∷◌, ◌++◌, All, drop, length, length-append, take, refl, sym, ap, ◌∙◌, arith, lit<, mod-eq_of_lt}
use Rattle.std.proofs.Math.Seq.{take-append_seam}
use Rattle.std.proofs.lemmas.List.Elements.{All-head, All-tail}
use Rattle.std.specs.Prelude.{map}
use Rattle.std.specs.Simd.{first_chunks}
use Rattle.chi_lanes.specs.Bytes.{AreBytes, little, little_bytes}
use Rattle.chi_lanes.proofs.ByteLists.{AreBytes-append, AreBytes-little_bytes}
use Rattle.chi_lanes.proofs.Digits.{length-little_bytes, little_little_bytes}
use Rattle.chi_json.specs.Object.{IsReadBack, word_bytes}
use Rattle.chi_json.specs.Values.{words_of}
use Rattle.chi_json.proofs.ObjectLemmas.{bytes_read}

-- each word has eight bytes
length-word_bytes : (words : List ℕ) → length (word_bytes words) ≡ 8 * length words
length-word_bytes [] = refl
length-word_bytes (word ∷ words) =
    let whole = length-append (little_bytes 8 word) (word_bytes words) in
    let first = length-little_bytes 8 word in
    let rest = length-word_bytes words in
    omega (arith, whole, first, rest)

no_bytes : AreBytes []
no_bytes i = lit< tt

AreBytes-word_bytes : (words : List ℕ) → AreBytes (word_bytes words)
AreBytes-word_bytes [] = no_bytes
AreBytes-word_bytes (word ∷ words) = AreBytes-append (little_bytes 8 word) (word_bytes words) (AreBytes-little_bytes 8 word) (AreBytes-word_bytes words)

-- what is past the first bytes
drop_past : (n : ℕ) (xs ys : List ℕ) → length xs ≡ n → drop n (xs ++ ys) ≡ ys
drop_past zero [] ys is = refl
drop_past zero (x ∷ xs) ys is = absurd (omega arith)
drop_past (suc n) [] ys is = absurd (omega arith)
drop_past (suc n) (x ∷ xs) ys is = drop_past n xs ys (omega arith)

-- the words of so many chunks of their bytes
chunks_are : (words : List ℕ) → All (λ word. word < 2 ^ 64) words → map little (first_chunks 8 (length words) (word_bytes words)) ≡ words
chunks_are [] fit = refl
chunks_are (word ∷ words) fit =
    let P : ℕ → Type 0 = λ w. w < 2 ^ 64 in
    let eight = length-little_bytes 8 word in
    let first : take 8 (little_bytes 8 word ++ word_bytes words) ≡ little_bytes 8 word =
    ap (λ n. take n (little_bytes 8 word ++ word_bytes words)) (sym eight) ∙ take-append_seam (little_bytes 8 word) (word_bytes words) in
    let rest : drop 8 (little_bytes 8 word ++ word_bytes words) ≡ word_bytes words = drop_past 8 (little_bytes 8 word) (word_bytes words) eight in
    let value : little (little_bytes 8 word) ≡ word = little_little_bytes 8 word ∙ mod-eq_of_lt (All-head P word words fit) in
    ap (λ (bytes : List ℕ). little bytes ∷ map little (first_chunks 8 (length words) (drop 8 (little_bytes 8 word ++ word_bytes words)))) first
    ∙ (ap (λ (bytes : List ℕ). little (little_bytes 8 word) ∷ map little (first_chunks 8 (length words) bytes)) rest
    ∙ (ap (λ (w : ℕ). w ∷ map little (first_chunks 8 (length words) (word_bytes words))) value
    ∙ ap (λ (ws : List ℕ). word ∷ ws) (chunks_are words (All-tail P word words fit))))

-- the words of their bytes
pub words_of-word_bytes : (words : List ℕ) → All (λ word. word < 2 ^ 64) words → words_of (word_bytes words) ≡ words
words_of-word_bytes words fit =
    let count : length (word_bytes words) / 8 ≡ length words = let bytes = length-word_bytes words in omega (arith, bytes) in
    ap (λ n. map little (first_chunks 8 n (word_bytes words))) count ∙ chunks_are words fit

-- the text of their bytes is read as the bytes
pub words_read_back : (words : List ℕ) (granules : ℕ) → length words ≡ granules → IsReadBack (8 * granules) (word_bytes words)
words_read_back words granules count =
    let bytes = length-word_bytes words in
    bytes_read (word_bytes words) (8 * granules) (omega (arith, bytes, count)) (AreBytes-word_bytes words)
