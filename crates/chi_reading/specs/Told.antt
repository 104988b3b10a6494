-- the words of granules that a trace's text tells
use Rattle.std.specs.Prelude.{ℕ, ◌+◌, ◌/◌, ◌%◌, ◌^◌, ◌==◌, nat_lt, ◌&&◌, if◌then◌else◌, List, [], ◌∷◌, ◌++◌, codes, Option, None, Some, is_some, option_and_then, Result, Ok}
use Rattle.std.specs.Option.{ok_or, option_map}
use Rattle.serde_json.specs.Data.{Data, Items, no_items, item}
use Rattle.serde_json.specs.Find.{as_array, as_number, as_u64, get}
use Rattle.chi_lanes.specs.Bytes.{little}
use Rattle.chi_json.specs.declared.member.MemberFault.{MemberFault}
use Rattle.chi_json.specs.declared.member.MemberFault.TheVariants.{BadMember}
use Rattle.chi_json.specs.Values.{hex_bytes}
use Rattle.chi_trace.specs.declared.words.GranuleWord.{GranuleWord}
use Rattle.chi_trace.specs.Words.{find_word}
use Rattle.chi_reading.specs.declared.member.Member.{Member}
use Rattle.chi_reading.specs.Member.{member_name}

-- the words of a region's granules, the first of which has this number
unfoldable pub region_words : ℕ → List ℕ → List GranuleWord
region_words first [] = []
region_words first (word ∷ words) = record { granule = first; word = word } ∷ region_words (first + 1) words

-- an address at which a granule starts
abbrev pub start_of : Data → Option ℕ
start_of d = option_and_then (λ addr. if addr % 8 == 0 && nat_lt addr (2 ^ 52) then Some addr else None) (option_and_then as_u64 (as_number d))

-- a granule's word, of a text of its eight bytes in address order, as 16 hex digits
abbrev pub word_of : Data → Option ℕ
word_of d = option_map little (hex_bytes 8 d)

-- a granule and its word, of an object with the address and the bytes
abbrev pub told_of : Data → Option GranuleWord
told_of d =
    option_and_then (λ addr. option_map (λ word. record { granule = addr / 8; word = word })
    (option_and_then word_of (get (codes "bytes") d))) (option_and_then start_of (get (codes "addr") d))

-- one more word, of a granule that none was told of
abbrev pub told_more : List GranuleWord → Option GranuleWord → Option (List GranuleWord)
told_more seen None = None
told_more seen (Some w) = if is_some (find_word seen w.granule) then None else Some (seen ++ w ∷ [])

-- the words that were told, and those of the elements to come
unfoldable pub told_from : List GranuleWord → Items → Option (List GranuleWord)
told_from seen no_items = Some seen
told_from seen (item d ds) = option_and_then (λ more. told_from more ds) (told_more seen (told_of d))

-- a list of them
abbrev pub list_of : Data → Option (List GranuleWord)
list_of d = option_and_then (told_from []) (as_array d)

-- a member that has such a list, or is left out
abbrev pub list_by : Member → Option Data → Result (List GranuleWord) (MemberFault Member)
list_by m None = Ok []
list_by m (Some d) = ok_or (list_of d) (BadMember m)

unfoldable pub stated_list : Member → Data → Result (List GranuleWord) (MemberFault Member)
stated_list m d = list_by m (get (member_name m) d)
