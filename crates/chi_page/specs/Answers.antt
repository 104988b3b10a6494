-- an answer as JSON: an object on one line
use Rattle.std.specs.Prelude.{ℕ, Bool, true, false, List, ◌++◌, codes, decimal, Option, None, Some}
use Rattle.chi_answer.specs.declared.answer.Answer.{Answer}
use Rattle.chi_answer.specs.declared.answer.Further.{Further}
use Rattle.chi_answer.specs.declared.answer.Answer.TheVariants.{Explained, Blamed, Unexplained, Undecided}
use Rattle.chi_excerpt.specs.Failures.{last_operations, order_in}
use Rattle.chi_judge.specs.declared.reach.Stop.{Stop}
use Rattle.chi_reading.specs.TraceText.{RecordedValue}
use Rattle.chi_search.specs.declared.words.Words.{Words}
use Rattle.chi_trace.specs.AtPlaces.{at_places}
use Rattle.chi_trace.specs.Words.{find_word}
use Rattle.chi_trace.specs.declared.operation.Operation.{Operation}
use Rattle.chi_verdict.specs.declared.doubt.Doubt.{Doubt}
use Rattle.chi_verdict.specs.declared.first.Blame.{Blame}
use Rattle.chi_page.specs.Granules.{addresses_json, granule_json, requests_json, told_json, words_json}
use Rattle.chi_page.specs.Objects.{object_json, objects_json, replies_json}

-- a time or a count of states, which may be too great for a number of JSON; null where there is none
unfoldable pub known_json : Option ℕ → List ℕ
known_json None = codes "null"
known_json (Some n) = codes "\"" ++ (decimal n ++ codes "\"")

-- whether a legal response explains the granule to its end; null where that is not known
unfoldable pub to_the_end_json : Option Bool → List ℕ
to_the_end_json None = codes "null"
to_the_end_json (Some true) = codes "true"
to_the_end_json (Some false) = codes "false"

-- operations by the numbers of their requests
unfoldable pub numbers_json : List Operation → List ℕ
numbers_json ops = codes "[" ++ (requests_json ops ++ codes "]")

-- after how many states of a search the object was cut short, and its end
unfoldable pub cut_short_json : Option ℕ → List ℕ
cut_short_json cut_short = codes ",\"cut_short\":" ++ (known_json cut_short ++ codes "}\n")

-- an order of the operations of a trace, where a witness is asked for
unfoldable pub witness_json : RecordedValue → Bool → List ℕ → List ℕ
witness_json r false order = codes "null"
witness_json r true order = numbers_json (at_places r.trace.operations order)

-- a trace that this order explains
unfoldable pub explained_json : RecordedValue → Bool → List ℕ → List ℕ
explained_json r witness order = codes "{\"answer\":\"explained\",\"order\":" ++ (witness_json r witness order ++ codes "}\n")

-- what has no order: its granule
unfoldable pub granule_members : ℕ → List ℕ
granule_members granule = codes "{\"answer\":\"not explained\",\"granule\":" ++ granule_json granule

-- the operation that is blamed, and what is known of the granule at that time
unfoldable pub stop_members : Stop → List ℕ
stop_members s =
    codes ",\"time\":\"" ++ (decimal s.time ++ (codes "\",\"blamed\":" ++ (object_json s.op ++ (codes ",\"suspects\":" ++ (numbers_json s.suspects.items
    ++ (codes ",\"open\":" ++ (objects_json s.overlapping.items ++ (codes ",\"words\":" ++ words_json s.words))))))))

-- the operations before it, the last so many of an order up to the time before, and which responses would be legal
unfoldable pub before_members : Stop → List Operation → Option Bool → List ℕ
before_members s order to_the_end =
    codes ",\"before\":" ++ (objects_json s.before.items ++ (codes ",\"order\":" ++ (numbers_json order ++ (codes ",\"legal\":" ++ (replies_json s.legal.items
    ++ (codes ",\"legal_to_the_end\":" ++ to_the_end_json to_the_end))))))

-- the other granules of the line of 64 bytes that no order explains
unfoldable pub beside_member : List ℕ → List ℕ
beside_member beside = codes ",\"also_not_explained\":[" ++ (addresses_json beside ++ codes "]")

-- where a trace stops being explained
unfoldable pub stopped_json : RecordedValue → ℕ → Blame → Further → Option ℕ → List ℕ
stopped_json r around blame further cut_short =
    granule_members blame.granule ++ (stop_members blame.stop
    ++ (before_members blame.stop (last_operations r around (order_in r blame.granule blame.order.items)) further.to_the_end ++ (beside_member further.beside.items ++ cut_short_json cut_short)))

-- the word of a granule that was told at the end, and the words that it can hold
unfoldable pub end_members : Option ℕ → Words → List ℕ
end_members final_word words = codes ",\"at_end\":" ++ (told_json final_word ++ (codes ",\"words\":" ++ words_json words))

-- a granule of which the word at the end is wrong, or that no order explains at a time that was not found
unfoldable pub at_end_json : ℕ → Option ℕ → Words → Option ℕ → List ℕ
at_end_json granule final_word words cut_short = granule_members granule ++ (end_members final_word words ++ cut_short_json cut_short)

-- a granule that was not decided: how many states were looked at, and the time up to which it is explained
unfoldable pub undecided_members : ℕ → ℕ → Option ℕ → List ℕ
undecided_members granule states explained =
    codes "{\"answer\":\"undecided\",\"granule\":" ++ (granule_json granule ++ (codes ",\"states\":\"" ++ (decimal states ++ (codes "\",\"explained_to\":" ++ known_json explained))))

-- the same with how many of its operations were open at one time
unfoldable pub undecided_json : Doubt → Option ℕ → List ℕ
undecided_json doubt cut_short =
    undecided_members doubt.granule doubt.states doubt.explained ++ (codes ",\"open_at_most\":" ++ (decimal doubt.most_open ++ cut_short_json cut_short))

-- an answer, with the order that explains a trace where a witness is asked for, and with so many operations of an order before the one
-- that is blamed
abbrev pub answer_json : RecordedValue → Bool → ℕ → Option ℕ → Answer → List ℕ
answer_json r witness around cut_short (Explained order) = explained_json r witness order.items
answer_json r witness around cut_short (Blamed blame further) = stopped_json r around blame further cut_short
answer_json r witness around cut_short (Unexplained granule words) = at_end_json granule (find_word r.final_words granule) words cut_short
answer_json r witness around cut_short (Undecided doubt) = undecided_json doubt cut_short
