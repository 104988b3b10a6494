-- lists of words of granules, and the memory that they make
use Rattle.std.specs.Prelude.{ℕ, ◌/◌, ◌%◌, ◌^◌, ◌<◌, ◌==◌, if◌then◌else◌, List, [], ◌∷◌, All, Option, Some, None}
use Rattle.std.specs.Option.{unwrap_or}
use Rattle.chi_lanes.specs.Memory.{Memory}
use Rattle.chi_trace.specs.declared.words.GranuleWord.{GranuleWord}

-- the word that a list has of a granule, where it has one
unfoldable pub find_word : List GranuleWord → ℕ → Option ℕ
find_word [] g = None
find_word (w ∷ words) g = if w.granule == g then Some w.word else find_word words g

-- the same, and 0 where none is
abbrev pub word_or_zero : List GranuleWord → ℕ → ℕ
word_or_zero words g = unwrap_or (find_word words g) 0

-- each granule comes before those after it
unfoldable pub AreInOrder : List GranuleWord → Type 0
AreInOrder [] = Unit {0}
AreInOrder (w ∷ words) = All (λ later. w.granule < later.granule) words × AreInOrder words

-- each word has eight bytes
abbrev pub AreWords : List GranuleWord → Type 0
AreWords words = All (λ w. w.word < 2 ^ 64) words

-- the memory in which each granule has its word: byte k of a word is its bits 8k to 8k + 7
abbrev pub memory_of : List GranuleWord → Memory
memory_of words x = word_or_zero words (x / 8) / 256 ^ (x % 8) % 256
