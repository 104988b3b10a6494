-- the scripts of worked texts, computed
use Rattle.std.proofs.Common.{◌≡◌, [], ◌∷◌, ◌-◌, ◌^◌, replicate, codes, refl, Ok, Err}
use Rattle.std.specs.Str.{is_utf8, chars}
use Rattle.hex.proofs.OnLiterals.{hex_on_literals}
use Rattle.serde_json.proofs.OnLiterals.{serde_json_on_literals}
use Rattle.chi_fields.specs.declared.region.RegionFault.TheVariants.{BaseNotLineAligned, GranuleCount, EndPastAddresses}
use Rattle.chi_lanes.specs.Bytes.{little}
use Rattle.chi_json.specs.Members.{number_of, opening_words, stated_words}
use Rattle.chi_json.specs.Values.{json_value}
use Rattle.chi_script.specs.declared.fault.ScriptFault.TheVariants.{NotJson, NotObject, Missing, BadMember, RegionRefused}
use Rattle.chi_script.specs.declared.member.Member.TheVariants.{Base, Image, Requests, Src, Txn, Size, Lanes}
use Rattle.chi_script.specs.Script.{script, object_script, requests_of, element_of, request_of}
use Rattle.chi_script.proofs.TextExamples.{fetch_add}

-- one fetch and add
pub script-fetch_add : script (codes "{\"base\":4096,\"granules\":8,\"requests\":[{\"src\":0,\"txn\":1,\"op\":48,\"size\":3,\"addr\":4096,\"endian\":0,\"be\":255,\"lanes\":\"01000000000000000000000000000000\"}]}") 7
    ≡ Ok (record { region = record { base = 4096; granules = 8 }; image = replicate 8 0; requests = fetch_add ∷ [] })
unfolding serde_json_on_literals hex_on_literals is_utf8 chars script json_value object_script opening_words stated_words requests_of element_of request_of number_of
script-fetch_add = refl

-- no requests
pub script-empty : script (codes "{\"base\":4096,\"granules\":8,\"requests\":[]}") 7
    ≡ Ok (record { region = record { base = 4096; granules = 8 }; image = replicate 8 0; requests = [] })
unfolding serde_json_on_literals is_utf8 chars script json_value object_script opening_words stated_words requests_of number_of
script-empty = refl

-- an image whose every bit is 1, and one fetch and add
pub script-image_ones : script (codes "{\"base\":4096,\"granules\":1,\"image\":\"FFFFFFFFFFFFFFFF\",\"requests\":[{\"src\":0,\"txn\":1,\"op\":48,\"size\":3,\"addr\":4096,\"endian\":0,\"be\":255,\"lanes\":\"01000000000000000000000000000000\"}]}") 7
    ≡ Ok (record { region = record { base = 4096; granules = 1 }; image = (2 ^ 64 - 1) ∷ []; requests = fetch_add ∷ [] })
unfolding serde_json_on_literals hex_on_literals is_utf8 chars little script json_value object_script opening_words stated_words requests_of element_of request_of number_of
script-image_ones = refl

-- an image is in address order
pub script-image_order : script (codes "{\"base\":4096,\"granules\":1,\"image\":\"0011223344556677\",\"requests\":[]}") 7
    ≡ Ok (record { region = record { base = 4096; granules = 1 }; image = 0x7766554433221100 ∷ []; requests = [] })
unfolding serde_json_on_literals hex_on_literals is_utf8 chars little script json_value object_script opening_words stated_words requests_of number_of
script-image_order = refl

-- the second granule's bytes follow those of the first
pub script-image_two : script (codes "{\"base\":4096,\"granules\":2,\"image\":\"0100000000000000aBcD000000000080\",\"requests\":[]}") 7
    ≡ Ok (record { region = record { base = 4096; granules = 2 }; image = 1 ∷ 0x800000000000cdab ∷ []; requests = [] })
unfolding serde_json_on_literals hex_on_literals is_utf8 chars little script json_value object_script opening_words stated_words requests_of number_of
script-image_two = refl

-- what is no script
pub script-not_one :
    -- its last byte is missing
    (script (codes "{\"base\":4096,\"granules\":8,\"requests\":[]") 7 ≡ Err NotJson)
    -- nothing at all
    × (script [] 7 ≡ Err NotJson)
    -- an array
    × (script (codes "[]") 7 ≡ Err NotObject)
    -- an object without members
    × (script (codes "{}") 7 ≡ Err (Missing Base))
    -- a text in a number's place
    × (script (codes "{\"base\":\"4096\"}") 7 ≡ Err (BadMember Base))
    -- the base comes before the granules
    × (script (codes "{\"granules\":null,\"base\":-1}") 7 ≡ Err (BadMember Base))
unfolding serde_json_on_literals is_utf8 chars script json_value object_script opening_words stated_words number_of
script-not_one = (refl, refl, refl, refl, refl, refl)

-- what has no region, or no list of requests
pub script-no_region :
    -- one granule too many
    (script (codes "{\"base\":4096,\"granules\":513,\"requests\":[]}") 7 ≡ Err (RegionRefused GranuleCount))
    -- the base's fault comes before that of the number of granules
    × (script (codes "{\"base\":4097,\"granules\":0,\"requests\":[]}") 7 ≡ Err (RegionRefused BaseNotLineAligned))
    -- the end of the addresses
    × (script (codes "{\"base\":4503599627370496,\"granules\":1,\"requests\":[]}") 7 ≡ Err (RegionRefused EndPastAddresses))
    -- an element that is no object, found before the region is tried
    × (script (codes "{\"base\":1,\"granules\":0,\"requests\":[7]}") 7 ≡ Err (BadMember Requests))
unfolding serde_json_on_literals is_utf8 chars script json_value object_script opening_words stated_words requests_of element_of number_of
script-no_region = (refl, refl, refl, refl)

-- what has an element that is no request
pub script-no_request :
    -- a requester above the greatest one
    (script (codes "{\"base\":4096,\"granules\":8,\"requests\":[{\"src\":3}]}") 2 ≡ Err (BadMember Src))
    -- the same requester under a greater one, and the next member
    × (script (codes "{\"base\":4096,\"granules\":8,\"requests\":[{\"src\":3}]}") 7 ≡ Err (Missing Txn))
    -- a size of eight
    × (script (codes "{\"base\":4096,\"granules\":8,\"requests\":[{\"src\":0,\"txn\":1,\"op\":48,\"size\":8}]}") 7 ≡ Err (BadMember Size))
    -- a text of 31 hex digits
    × (script (codes "{\"base\":4096,\"granules\":8,\"requests\":[{\"src\":0,\"txn\":1,\"op\":48,\"size\":3,\"addr\":4096,\"endian\":0,\"be\":255,\"lanes\":\"0100000000000000000000000000000\"}]}") 7 ≡ Err (BadMember Lanes))
unfolding serde_json_on_literals hex_on_literals is_utf8 chars script json_value object_script opening_words stated_words requests_of element_of request_of number_of
script-no_request = (refl, refl, refl, refl)

-- what has an image that is none
pub script-no_image :
    -- a digit too few
    (script (codes "{\"base\":4096,\"granules\":1,\"image\":\"001122334455667\",\"requests\":[]}") 7 ≡ Err (BadMember Image))
    -- a digit too many, found before the requests are missed
    × (script (codes "{\"base\":4096,\"granules\":1,\"image\":\"00112233445566778\"}") 7 ≡ Err (BadMember Image))
    -- no digit
    × (script (codes "{\"base\":4096,\"granules\":1,\"image\":\"\",\"requests\":[]}") 7 ≡ Err (BadMember Image))
    -- no text
    × (script (codes "{\"base\":4096,\"granules\":1,\"image\":null}") 7 ≡ Err (BadMember Image))
    -- of no granules the image is empty, and the region is refused
    × (script (codes "{\"base\":4096,\"granules\":0,\"image\":\"\",\"requests\":[]}") 7 ≡ Err (RegionRefused GranuleCount))
unfolding serde_json_on_literals hex_on_literals is_utf8 chars little script json_value object_script opening_words stated_words requests_of number_of
script-no_image = (refl, refl, refl, refl, refl)
