-- a script that was written is read as what it was written of
use Rattle.std.proofs.Common.{◌≡◌, ◌<◌, slice_index_or, take, ℕ, ◌+◌, ◌*◌, ◌≤◌, ◌-◌, ◌^◌, nat_lt, true, false, List, [], ◌∷◌, length, Option, None, Some, Ok, Bor, refl, subst, arith}
use Rattle.std.specs.Prelude.{All, IfSome}
use Rattle.std.proofs.lemmas.Bool.{le-ltb}
use Rattle.std.proofs.lemmas.List.Elements.{All-head, All-more, All-tail}
use Rattle.std.specs.Option.{option_map}
use Rattle.std.specs.Str.{is_utf8}
use Rattle.serde_json.specs.Data.{depth, items_depth}
use Rattle.serde_json.specs.Read.{read}
use Rattle.chi_fields.specs.Extent.{Extent, IsRegion, region_of}
use Rattle.chi_fields.specs.declared.request.Request.{Request}
use Rattle.chi_json.specs.Members.{opening_words, stated_words}
use Rattle.chi_json.proofs.ObjectLemmas.{number_here, order_here, order_within}
use Rattle.chi_json.specs.Object.{IsReadBack, byte_order, with_array, with_bytes, with_number, with_request}
use Rattle.chi_json.specs.Values.{json_value}
use Rattle.chi_script.specs.declared.member.Member.TheVariants.{Base, Granules, Src, Txn, Opcode, Size, Addr, Endian, Be}
use Rattle.chi_script.specs.Member.{member_name}
use Rattle.chi_script.specs.Script.{IsWritable, element_of, object_script, request_of, requests_of, script}
use Rattle.chi_stimulus.specs.Object.{all_data, image_words, request_data, script_data}

pub element_reads : (q : Request) → IsWritable q → element_of 7 (request_data q) ≡ Ok q
unfolding request_data with_request with_number with_bytes element_of request_of
element_reads q w =
    let d = request_data q in
    rw (
      number_here member_name Src 7 q.src d refl w.src,
      number_here member_name Txn 255 q.txn d refl w.txn,
      number_here member_name Opcode 255 q.opcode d refl w.opcode,
      number_here member_name Size 7 q.size d refl w.size,
      number_here member_name Addr (2 ^ 64 - 1) q.addr d refl w.addr,
      number_here member_name Endian 1 (byte_order q.endian) d refl (order_within q.endian),
      number_here member_name Be 65535 q.be d refl w.be,
      w.lanes,
      order_here q.endian,
    ) refl

pub requests_read : (qs : List Request) → All IsWritable qs → requests_of 7 (all_data qs) ≡ Ok qs
unfolding requests_of
requests_read [] h = refl
requests_read (q ∷ qs) h =
    rw (element_reads q (All-head IsWritable q qs h), requests_read qs (All-tail IsWritable q qs h)) refl

-- a request nests once
request_depth : (q : Request) → depth (request_data q) ≤ 1
unfolding request_data with_request with_number with_bytes
request_depth q = omega arith

requests_depth : (qs : List Request) → items_depth (all_data qs) ≤ 1
requests_depth [] = omega arith
requests_depth (q ∷ qs) =
    let one = request_depth q in
    let others = requests_depth qs in
    omega arith

-- a script nests three times at most
pub script_depth : (region : Extent) (image : Option (List ℕ)) (qs : List Request) → depth (script_data region image qs) ≤ 127
unfolding script_data with_number with_bytes with_array
script_depth region None qs = let deep = requests_depth qs in omega arith
script_depth region (Some bytes) qs = let deep = requests_depth qs in omega arith

region_here : (r : Extent) → IsRegion r → region_of r.base r.granules ≡ Ok r
region_here r is = grind (arith)

pub object_reads : (region : Extent) (image : Option (List ℕ)) (qs : List Request)
    → IsRegion region → IfSome image (IsReadBack (8 * region.granules)) → All IsWritable qs → length qs ≤ 4096
    → object_script 7 (script_data region image qs) ≡ Ok (record { region = region; image = image_words region.granules image; requests = qs })
unfolding object_script script_data with_number with_bytes with_array opening_words stated_words
object_reads region None qs is shown written few =
    let d = script_data region None qs in
    let base : region.base ≤ 2 ^ 64 - 1 = omega (arith, is.end) in
    let granules : region.granules ≤ 65535 = omega (arith, is.most) in
    let within : nat_lt 4096 (length qs) ≡ false = le-ltb 4096 (length qs) few in
    rw (number_here member_name Base (2 ^ 64 - 1) region.base d refl base, number_here member_name Granules 65535 region.granules d refl granules, requests_read qs written, region_here region is, within) refl
object_reads region (Some bytes) qs is shown written few =
    let d = script_data region (Some bytes) qs in
    let base : region.base ≤ 2 ^ 64 - 1 = omega (arith, is.end) in
    let granules : region.granules ≤ 65535 = omega (arith, is.most) in
    let within : nat_lt 4096 (length qs) ≡ false = le-ltb 4096 (length qs) few in
    rw (number_here member_name Base (2 ^ 64 - 1) region.base d refl base, number_here member_name Granules 65535 region.granules d refl granules, shown, requests_read qs written, region_here region is, within) refl

-- one request more
pub more_writable : (qs : List Request) (i : ℕ) (d : Request) → i < length qs → All IsWritable (take i qs) → IsWritable (slice_index_or qs i d) → All IsWritable (take (i + 1) qs)
more_writable qs i d within before this = All-more IsWritable qs i d within before this

-- the bytes of an image are those of its granules
image_shown : (image : Option (Bor (List ℕ))) (n : ℕ) → IfSome image (λ bytes. length bytes.now ≡ n)
    → IfSome image (λ bytes. IsReadBack (length bytes.now) bytes.now) → IfSome (option_map (λ bytes. bytes.now) image) (IsReadBack n)
image_shown None n long shown = tt
image_shown (Some bytes) n long shown = subst (λ k. IsReadBack k bytes.now) long shown

-- the text of a script's object is read as the script
pub script_reads : (region : Extent) (image : Option (Bor (List ℕ))) (qs : List Request) (text : List ℕ)
    → is_utf8 text ≡ true → read text ≡ Some (script_data region (option_map (λ bytes. bytes.now) image) qs) → IsRegion region
    → IfSome image (λ bytes. length bytes.now ≡ 8 * region.granules) → IfSome image (λ bytes. IsReadBack (length bytes.now) bytes.now)
    → All IsWritable qs → length qs ≤ 4096
    → script text 7 ≡ Ok (record { region = region; image = image_words region.granules (option_map (λ bytes. bytes.now) image); requests = qs })
unfolding script json_value script_data
script_reads region image qs text valid is_read is long shown written few =
    rw (valid, is_read) (object_reads region (option_map (λ bytes. bytes.now) image) qs is (image_shown image (8 * region.granules) long shown) written few)
