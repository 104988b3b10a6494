-- the requests of a script are of requesters up to the greatest one
use Rattle.std.proofs.Common.{◌≡◌, ℕ, ◌+◌, ◌≤◌, ◌-◌, ◌^◌, nat_lt, Bool, true, false, if◌then◌else◌, List, length, Result, Ok, Err, IfOk, arith}
use Rattle.std.specs.Prelude.{All, is_some}
use Rattle.std.proofs.lemmas.Bool.{lt-ltb}
use Rattle.std.proofs.lemmas.List.Elements.{All-nil, All-cons}
use Rattle.serde_json.specs.Data.{Data, Items, no_items, item}
use Rattle.serde_json.specs.Find.{as_array, as_object}
use Rattle.chi_fields.specs.Extent.{Extent, region_of}
use Rattle.chi_fields.specs.declared.region.RegionFault.{RegionFault}
use Rattle.chi_fields.specs.declared.request.Request.{Request}
use Rattle.chi_history.specs.NumberSets.{AllFrom, below}
use Rattle.chi_json.specs.Members.{member_by, number_of, opening_words, or_else}
use Rattle.chi_json.specs.Values.{hex_bytes}
use Rattle.chi_json.specs.declared.member.MemberFault.TheVariants.{BadMember}
use Rattle.chi_json.proofs.WalkLemmas.{at_ok, number_within, renamed, then_ok}
use Rattle.chi_script.specs.Faults.{as_fault}
use Rattle.chi_script.specs.declared.fault.ScriptFault.TheVariants.{TooManyRequests}
use Rattle.chi_script.specs.declared.member.Member.TheVariants.{Base, Granules, Image, Requests, Src, Txn, Opcode, Size, Addr, Endian, Be, Lanes}
use Rattle.chi_script.specs.Member.{member_name}
use Rattle.chi_script.specs.Script.{request_of, element_of, requests_of, on_region, object_script, ScriptValue}

-- the requester's number is at most the greatest one
abbrev pub IsUpTo : ℕ → Request → Type 0
IsUpTo top q = q.src ≤ top

-- the same of each request of a script
abbrev pub AllUpTo : ℕ → ScriptValue → Type 0
AllUpTo top s = All (IsUpTo top) s.requests

-- a request's requester is
request_within : (top : ℕ) (d : Data) → IfOk (request_of top d) (IsUpTo top)
unfolding request_of
request_within top d =
    then_ok (number_of member_name Src top d) _ (IsUpTo top) (λ src e.
    then_ok (number_of member_name Txn 255 d) _ (IsUpTo top) (λ txn e1.
    then_ok (number_of member_name Opcode 255 d) _ (IsUpTo top) (λ opcode e2.
    then_ok (number_of member_name Size 7 d) _ (IsUpTo top) (λ size e3.
    then_ok (number_of member_name Addr (2 ^ 64 - 1) d) _ (IsUpTo top) (λ addr e4.
    then_ok (number_of member_name Endian 1 d) _ (IsUpTo top) (λ endian e5.
    then_ok (number_of member_name Be 65535 d) _ (IsUpTo top) (λ be e6.
    then_ok (member_by member_name Lanes (hex_bytes 16) d) _ (IsUpTo top) (λ lanes e7.
    at_ok (number_of member_name Src top d) src (λ n. n ≤ top) e (number_within member_name Src top d)))))))))

-- by cases on whether an element is an object
element_by : (top : ℕ) (d : Data) (b : Bool) → IfOk (if b then request_of top d else Err (BadMember Requests)) (IsUpTo top)
element_by top d true = request_within top d
element_by top d false = tt

-- so is each requester of an array
requests_within : (top : ℕ) (ds : Items) → IfOk (requests_of top ds) (All (IsUpTo top))
unfolding requests_of element_of
requests_within top no_items = All-nil (IsUpTo top)
requests_within top (item d ds) =
    then_ok (element_of top d) _ (All (IsUpTo top)) (λ q e.
    then_ok (requests_of top ds) _ (All (IsUpTo top)) (λ qs e1.
    All-cons (IsUpTo top) q qs
    (at_ok (element_of top d) q (IsUpTo top) e (element_by top d (is_some (as_object d))))
    (at_ok (requests_of top ds) qs (All (IsUpTo top)) e1 (requests_within top ds))))

-- by cases on the region
on_by : (top : ℕ) (r : Result Extent RegionFault) (image : List ℕ) (qs : List Request) → All (IsUpTo top) qs → IfOk (on_region r image qs) (AllUpTo top)
on_by top (Ok region) image qs h = h
on_by top (Err f) image qs h = tt

-- by cases on the number of requests
counted : (top : ℕ) (r : Result Extent RegionFault) (image : List ℕ) (qs : List Request) (b : Bool) → All (IsUpTo top) qs
    → IfOk (if b then Err TooManyRequests else on_region r image qs) (AllUpTo top)
counted top r image qs true h = tt
counted top r image qs false h = on_by top r image qs h

-- so is each requester of an object
object_within : (top : ℕ) (d : Data) → IfOk (object_script top d) (AllUpTo top)
unfolding object_script
object_within top d =
    then_ok (or_else as_fault (number_of member_name Base (2 ^ 64 - 1) d)) _ (AllUpTo top) (λ base e.
    then_ok (or_else as_fault (number_of member_name Granules 65535 d)) _ (AllUpTo top) (λ granules e1.
    then_ok (or_else as_fault (opening_words member_name Image granules d)) _ (AllUpTo top) (λ image e2.
    then_ok (or_else as_fault (member_by member_name Requests as_array d)) _ (AllUpTo top) (λ elements e3.
    then_ok (or_else as_fault (requests_of top elements)) _ (AllUpTo top) (λ qs e4.
    counted top (region_of base granules) image qs (nat_lt 4096 (length qs))
    (at_ok (or_else as_fault (requests_of top elements)) qs (All (IsUpTo top)) e4
    (renamed as_fault (requests_of top elements) (All (IsUpTo top)) (requests_within top elements))))))))

-- so each of them stands in the set of those below the next number
pub object_from : (top : ℕ) (d : Data) (s : ScriptValue) → object_script top d ≡ Ok s → AllFrom (below (top + 1)) s.requests
object_from top d s read = λ k q inside.
    let up_to = at_ok (object_script top d) s (AllUpTo top) read (object_within top d) k q inside in lt-ltb _ (top + 1) (omega (arith, up_to))
