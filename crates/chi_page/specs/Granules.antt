-- the granules of a trace as JSON: what is said of each, and the words before and after each operation of the order found
use Rattle.std.specs.Prelude.{ℕ, ◌+◌, ◌<◌, ◌*◌, ◌^◌, ◌%◌, List, [], ◌++◌, codes, decimal, length, slice_get, slice_index, take, All, Option, None, Some}
use Rattle.chi_search.specs.declared.words.Words.{Words}
use Rattle.chi_search.specs.declared.words.Words.TheVariants.{Each, Unknown}
use Rattle.chi_text.specs.Part.{address_text, word_text}
use Rattle.chi_trace.specs.Explains.{at}
use Rattle.chi_trace.specs.declared.operation.Operation.{Operation}
use Rattle.chi_trace.specs.Granules.{last_word}
use Rattle.chi_trace.specs.Words.{find_word, word_or_zero}
use Rattle.chi_reading.specs.TraceText.{RecordedValue}
use Rattle.chi_page.specs.declared.drawn.Drawn.{Drawn}
use Rattle.chi_judge.specs.declared.standing.Standing.{Standing}
use Rattle.chi_judge.specs.declared.standing.Standing.TheVariants.{Explained, Unexplained, Undecided}
use Rattle.chi_page.specs.Listed.{comma, comma_line, listed}

-- what was found of a granule
unfoldable pub finding_json : Standing → List ℕ
finding_json Explained = codes "\"explained\""
finding_json Unexplained = codes "\"not explained\""
finding_json Undecided = codes "\"undecided\""

-- the address of a granule
unfoldable pub granule_json : ℕ → List ℕ
granule_json granule = codes "\"" ++ (address_text (granule * 8 % 2 ^ 64) ++ codes "\"")

-- a granule's word, as its eight bytes in address order
unfoldable pub word_json : ℕ → List ℕ
word_json word = codes "\"" ++ (word_text word ++ codes "\"")

-- a word, or null where none was told
unfoldable pub told_json : Option ℕ → List ℕ
told_json None = codes "null"
told_json (Some word) = word_json word

-- an operation of an order: its place, and the words before and after it
unfoldable pub step_json : ℕ → ℕ → ℕ → List ℕ
step_json place before after =
    codes "[" ++ (decimal place ++ (codes "," ++ (word_json before ++ (codes "," ++ (word_json after ++ codes "]")))))

-- the one that stands n-th in the order: it finds the word that the n operations before it leave
abbrev pub step_at : List Operation → ℕ → List ℕ → ℕ → List ℕ
step_at ops word order n = step_json (slice_index order n) (last_word ops word (take n order)) (last_word ops word (take (n + 1) order))

-- all operations of an order, from a word on
unfoldable pub steps_json : List Operation → ℕ → List ℕ → List ℕ
steps_json ops word order = listed comma_line (step_at ops word order) (length order)

-- a granule, what was found of it, and its words at the opening and at the end
unfoldable pub head_json : ℕ → Standing → ℕ → Option ℕ → List ℕ
head_json granule finding word final_word =
    codes "{\"granule\":" ++ (granule_json granule ++ (codes ",\"finding\":" ++ (finding_json finding ++ (codes ",\"opening\":" ++ (word_json word
    ++ (codes ",\"final\":" ++ told_json final_word))))))

-- the same with the order found
unfoldable pub drawn_json : RecordedValue → Drawn → List ℕ
drawn_json r d =
    let word = word_or_zero r.trace.opening d.granule in
    head_json d.granule d.finding word (find_word r.final_words d.granule)
    ++ (codes ",\"steps\":[" ++ (steps_json r.trace.operations word d.order.items ++ codes "]}"))

-- the one at a place of a list
abbrev pub drawn_at : RecordedValue → Option Drawn → List ℕ
drawn_at r None = []
drawn_at r (Some d) = drawn_json r d

-- all of them
unfoldable pub granules_json : RecordedValue → List Drawn → List ℕ
granules_json r granules = listed comma_line (λ n. drawn_at r (slice_get granules n)) (length granules)

-- the numbers of operations' requests
unfoldable pub requests_json : List Operation → List ℕ
requests_json ops = listed comma (λ n. decimal (at ops n).number) (length ops)

-- words of a granule
unfoldable pub each_word_json : List ℕ → List ℕ
each_word_json words = listed comma (λ n. word_json (slice_index words n)) (length words)

-- granules, by their addresses
unfoldable pub addresses_json : List ℕ → List ℕ
addresses_json granules = listed comma (λ n. granule_json (slice_index granules n)) (length granules)

-- the words that the granule can hold, or null where they were not found
unfoldable pub words_json : Words → List ℕ
words_json (Each words) = codes "[" ++ (each_word_json words.items ++ codes "]")
words_json Unknown = codes "null"

-- each order has places of the trace
abbrev pub AreOfTrace : RecordedValue → List Drawn → Type 0
AreOfTrace r granules = All (λ d. All (λ i. i < length r.trace.operations) d.order.items) granules
