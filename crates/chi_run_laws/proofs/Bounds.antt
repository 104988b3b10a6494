-- what is true of every script that is read
use Rattle.std.proofs.Common.{◌≡◌, ℕ, zero, suc, ◌+◌, ◌-◌, ◌*◌, ◌/◌, ◌^◌, ◌<◌, ◌≤◌, ◌%◌, ◌==◌, ◌||◌, not, nat_lt, Bool, true, false, if◌then◌else◌, List, All, drop, length, take, Option, None, Some, Result, Ok, Err, IfOk, IfSome, refl, subst, sym, ap, ◌∙◌, arith, lit<, length-drop, length-take-le}
use Rattle.std.proofs.lemmas.Bool.{ltb-false}
use Rattle.std.proofs.lemmas.List.{length-replicate}
use Rattle.std.proofs.lemmas.List.Elements.{All-cons, All-nil, All-replicate}
use Rattle.std.specs.Option.{ok_or, option_map, option_transpose, unwrap_or}
use Rattle.std.specs.Prelude.{is_some, map, replicate}
use Rattle.std.specs.Simd.{first_chunks}
use Rattle.serde_json.specs.Data.{Data, Items, item, no_items}
use Rattle.serde_json.specs.Find.{as_array, as_object, get}
use Rattle.chi_fields.specs.Extent.{Extent, IsRegion, region_of}
use Rattle.chi_fields.specs.declared.region.RegionFault.{RegionFault}
use Rattle.chi_fields.specs.declared.region.RegionFault.TheVariants.{BaseNotLineAligned, EndPastAddresses, GranuleCount}
use Rattle.chi_fields.specs.declared.request.Request.{Request}
use Rattle.chi_lanes.specs.Bytes.{AreBytes, little}
use Rattle.chi_lanes.proofs.ByteLists.{AreBytes-drop, AreBytes-take}
use Rattle.chi_lanes.proofs.Digits.{little-bound}
use Rattle.chi_json.specs.Members.{◌>>=◌, member_by, number_of, opening_words, or_else, stated_words}
use Rattle.chi_json.specs.Object.{IsReadBack}
use Rattle.chi_json.specs.Values.{hex_bytes, image_of, json_value, words_of}
use Rattle.chi_json.specs.declared.member.MemberFault.TheVariants.{BadMember, Missing}
use Rattle.chi_json.proofs.ObjectLemmas.{bytes_read}
use Rattle.chi_json.proofs.WalkLemmas.{at_ok, number_within, present, renamed, then_ok}
use Rattle.chi_json.proofs.WordLemmas.{AreDecoded, AreDecoded-hex_bytes}
use Rattle.chi_trace.proofs.Decided.{region_lawful, unless}
use Rattle.chi_script.specs.Faults.{as_fault}
use Rattle.chi_script.specs.Member.{member_name}
use Rattle.chi_script.specs.Script.{IsWritable, ScriptValue, element_of, object_script, on_region, request_of, requests_of, script}
use Rattle.chi_script.specs.declared.fault.ScriptFault.TheVariants.{NotJson, NotObject, TooManyRequests}
use Rattle.chi_script.specs.declared.member.Member.TheVariants.{Base, Granules, Image, Requests, Src, Txn, Opcode, Size, Addr, Endian, Be, Lanes}

-- each word has 64 bits
abbrev pub AreWords : List ℕ → Type 0
AreWords words = All (λ word. word < 2 ^ 64) words

-- the words of so many granules
pub record IsImage (granules : ℕ) (words : List ℕ) : Type 0 where
  pub count : length words ≡ granules
  pub fit : AreWords words

-- a script that is read
pub record IsSound (s : ScriptValue) : Type 0 where
  pub region : IsRegion s.region
  pub image : IsImage s.region.granules s.image
  pub requests : All IsWritable s.requests
  pub few : length s.requests ≤ 4096

-- the words of bytes
words_below : (k : ℕ) (bytes : List ℕ) → AreBytes bytes → 8 * k ≤ length bytes → AreWords (map little (first_chunks 8 k bytes))
words_below zero bytes are room = All-nil (λ (word : ℕ). word < 2 ^ 64)
words_below (suc k) bytes are room =
    let count : length (take 8 bytes) ≡ 8 = length-take-le 8 bytes (omega arith) in
    let first : little (take 8 bytes) < 2 ^ 64 = subst (λ n. little (take 8 bytes) < 256 ^ n) count (little-bound (take 8 bytes) (AreBytes-take 8 bytes are)) in
    let rest : length (drop 8 bytes) ≡ length bytes - 8 = length-drop 8 bytes in
    All-cons (λ (word : ℕ). word < 2 ^ 64) (little (take 8 bytes)) (map little (first_chunks 8 k (drop 8 bytes))) first
    (words_below k (drop 8 bytes) (AreBytes-drop 8 bytes are) (omega (arith, rest)))

length-chunks : (k : ℕ) (bytes : List ℕ) → length (map little (first_chunks 8 k bytes)) ≡ k
length-chunks zero bytes = refl
length-chunks (suc k) bytes = ap suc (length-chunks k (drop 8 bytes))

image_sound : (granules : ℕ) (d : Data) → IfSome (image_of granules d) (IsImage granules)
image_sound granules d = by_bytes (hex_bytes (8 * granules) d) (AreDecoded-hex_bytes (8 * granules) d)
  where
    by_bytes : (bytes : Option (List ℕ)) → IfSome bytes (AreDecoded (8 * granules)) → IfSome (option_map words_of bytes) (IsImage granules)
    by_bytes None are = tt
    by_bytes (Some bytes) are =
        let chunks : length bytes / 8 ≡ granules = omega (arith, are.0) in
        record { count = length-chunks (length bytes / 8) bytes ∙ chunks; fit = words_below (length bytes / 8) bytes are.1 (omega arith) }

opening_sound : (granules : ℕ) (d : Data) → IfOk (opening_words member_name Image granules d) (IsImage granules)
unfolding opening_words stated_words
opening_sound granules d = by_member (get (member_name Image) d)
  where
    zeros : IsImage granules (replicate granules 0)
    zeros = record { count = length-replicate granules 0; fit = All-replicate (λ (word : ℕ). word < 2 ^ 64) granules 0 (lit< tt) }

    by_image : (image : Option (List ℕ)) → IfSome image (IsImage granules)
        → IfOk ((option_transpose (Some (ok_or image (BadMember Image)))) >>= (λ stated. Ok (unwrap_or stated (replicate granules 0)))) (IsImage granules)
    by_image None is = tt
    by_image (Some words) is = is

    by_member : (value : Option Data)
        → IfOk ((option_transpose (option_map (λ v. ok_or (image_of granules v) (BadMember Image)) value)) >>= (λ stated. Ok (unwrap_or stated (replicate granules 0)))) (IsImage granules)
    by_member None = zeros
    by_member (Some v) = by_image (image_of granules v) (image_sound granules v)

lanes_sound : (d : Data) → IfOk (member_by member_name Lanes (hex_bytes 16) d) (IsReadBack 16)
lanes_sound d =
    then_ok (ok_or (get (member_name Lanes) d) (Missing Lanes)) (λ v. ok_or (hex_bytes 16 v) (BadMember Lanes)) (IsReadBack 16)
    (λ v e. present (hex_bytes 16 v) (BadMember Lanes) (IsReadBack 16) (by_bytes (hex_bytes 16 v) (AreDecoded-hex_bytes 16 v)))
  where
    by_bytes : (bytes : Option (List ℕ)) → IfSome bytes (AreDecoded 16) → IfSome bytes (IsReadBack 16)
    by_bytes None are = tt
    by_bytes (Some bytes) are = bytes_read bytes 16 are.0 are.1

request_sound : (d : Data) → IfOk (request_of 7 d) IsWritable
unfolding request_of
request_sound d =
    then_ok (number_of member_name Src 7 d) _ IsWritable (λ src e.
    then_ok (number_of member_name Txn 255 d) _ IsWritable (λ txn e1.
    then_ok (number_of member_name Opcode 255 d) _ IsWritable (λ opcode e2.
    then_ok (number_of member_name Size 7 d) _ IsWritable (λ size e3.
    then_ok (number_of member_name Addr (2 ^ 64 - 1) d) _ IsWritable (λ addr e4.
    then_ok (number_of member_name Endian 1 d) _ IsWritable (λ endian e5.
    then_ok (number_of member_name Be 65535 d) _ IsWritable (λ be e6.
    then_ok (member_by member_name Lanes (hex_bytes 16) d) _ IsWritable (λ lanes e7.
    record {
      src = at_ok (number_of member_name Src 7 d) src (λ n. n ≤ 7) e (number_within member_name Src 7 d);
      txn = at_ok (number_of member_name Txn 255 d) txn (λ n. n ≤ 255) e1 (number_within member_name Txn 255 d);
      opcode = at_ok (number_of member_name Opcode 255 d) opcode (λ n. n ≤ 255) e2 (number_within member_name Opcode 255 d);
      size = at_ok (number_of member_name Size 7 d) size (λ n. n ≤ 7) e3 (number_within member_name Size 7 d);
      addr = at_ok (number_of member_name Addr (2 ^ 64 - 1) d) addr (λ n. n ≤ 2 ^ 64 - 1) e4 (number_within member_name Addr (2 ^ 64 - 1) d);
      be = at_ok (number_of member_name Be 65535 d) be (λ n. n ≤ 65535) e6 (number_within member_name Be 65535 d);
      lanes = at_ok (member_by member_name Lanes (hex_bytes 16) d) lanes (IsReadBack 16) e7 (lanes_sound d);
    }))))))))

-- by cases on whether an element is an object
element_by : (d : Data) (b : Bool) → IfOk (if b then request_of 7 d else Err (BadMember Requests)) IsWritable
element_by d true = request_sound d
element_by d false = tt

requests_sound : (ds : Items) → IfOk (requests_of 7 ds) (All IsWritable)
unfolding requests_of element_of
requests_sound no_items = All-nil IsWritable
requests_sound (item d ds) =
    then_ok (element_of 7 d) _ (All IsWritable) (λ q e.
    then_ok (requests_of 7 ds) _ (All IsWritable) (λ qs e1.
    All-cons IsWritable q qs
    (at_ok (element_of 7 d) q IsWritable e (element_by d (is_some (as_object d))))
    (at_ok (requests_of 7 ds) qs (All IsWritable) e1 (requests_sound ds))))

-- a region that is not refused is one, of so many granules
abbrev pub IsRegionOf : ℕ → Extent → Type 0
IsRegionOf granules region = IsRegion region × (region.granules ≡ granules)

granules_same : (base granules : ℕ) → IfOk (region_of base granules) (λ region. region.granules ≡ granules)
granules_same base granules =
    let P : Extent → Type 0 = λ region. region.granules ≡ granules in
    unless (not (base % 64 == 0)) BaseNotLineAligned _ P (λ line.
    unless (nat_lt granules 1 || nat_lt 512 granules) GranuleCount _ P (λ count.
    unless (nat_lt (2 ^ 52) (base + 8 * granules)) EndPastAddresses (Ok (record { base = base; granules = granules })) P (λ end. refl)))

both : {A E : Type 0} (P Q : A → Type 0) (r : Result A E) → IfOk r P → IfOk r Q → IfOk r (λ a. P a × Q a)
both P Q (Ok a) p q = (p, q)
both P Q (Err e) p q = tt

-- by cases on the region
on_sound : (r : Result Extent RegionFault) (granules : ℕ) (image : List ℕ) (qs : List Request) → IfOk r (IsRegionOf granules) → IsImage granules image → All IsWritable qs
    → length qs ≤ 4096 → IfOk (on_region r image qs) IsSound
on_sound (Ok region) granules image qs is imaged told few =
    record { region = is.0; image = subst (λ n. IsImage n image) (sym is.1) imaged; requests = told; few = few }
on_sound (Err fault) granules image qs is imaged told few = tt

object_sound : (d : Data) → IfOk (object_script 7 d) IsSound
unfolding object_script
object_sound d =
    then_ok (or_else as_fault (number_of member_name Base (2 ^ 64 - 1) d)) _ IsSound (λ base e.
    then_ok (or_else as_fault (number_of member_name Granules 65535 d)) _ IsSound (λ granules e1.
    then_ok (or_else as_fault (opening_words member_name Image granules d)) _ IsSound (λ image e2.
    then_ok (or_else as_fault (member_by member_name Requests as_array d)) _ IsSound (λ elements e3.
    then_ok (or_else as_fault (requests_of 7 elements)) _ IsSound (λ qs e4.
    unless (nat_lt 4096 (length qs)) TooManyRequests (on_region (region_of base granules) image qs) IsSound (λ few.
    on_sound (region_of base granules) granules image qs
    (both IsRegion (λ region. region.granules ≡ granules) (region_of base granules) (region_lawful base granules) (granules_same base granules))
    (at_ok (or_else as_fault (opening_words member_name Image granules d)) image (IsImage granules) e2
    (renamed as_fault (opening_words member_name Image granules d) (IsImage granules) (opening_sound granules d)))
    (at_ok (or_else as_fault (requests_of 7 elements)) qs (All IsWritable) e4 (renamed as_fault (requests_of 7 elements) (All IsWritable) (requests_sound elements)))
    (ltb-false 4096 (length qs) few)))))))

-- a script that is read
pub script_sound : (text : List ℕ) (s : ScriptValue) → script text 7 ≡ Ok s → IsSound s
unfolding script
script_sound text s read =
    at_ok (script text 7) s IsSound read (then_ok (ok_or (json_value text) NotJson) _ IsSound (λ d e. by_object d (is_some (as_object d))))
  where
    by_object : (d : Data) (b : Bool) → IfOk (if b then object_script 7 d else Err NotObject) IsSound
    by_object d true = object_sound d
    by_object d false = tt
