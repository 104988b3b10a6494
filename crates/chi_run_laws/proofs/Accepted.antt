-- what is true of the access of a request that is accepted
use Rattle.std.proofs.Common.{◌≡◌, ℕ, zero, suc, ◌+◌, ◌-◌, ◌<◌, ◌≤◌, List, ◌++◌, length, length-append, Ok, arith, lit<, ◌∙◌}
use Rattle.std.proofs.lemmas.List.{length-replicate}
use Rattle.std.specs.Prelude.{replicate}
use Rattle.hex.specs.Hex.{encode_lower}
use Rattle.chi_fields.specs.Access.{Access, IsLawful, lane_of}
use Rattle.chi_fields.specs.Extent.{Extent, IsRegion}
use Rattle.chi_fields.specs.Refusal.{decision}
use Rattle.chi_fields.specs.declared.kind.Kind.{Kind}
use Rattle.chi_fields.specs.declared.kind.Kind.TheVariants.{Read, Write, Store, Load, Swap, Compare}
use Rattle.chi_fields.specs.declared.request.Request.{Request}
use Rattle.chi_lanes.specs.After.{answer, answer_as, old}
use Rattle.chi_lanes.specs.Bytes.{AreBytes}
use Rattle.chi_lanes.specs.Memory.{IsMemory, Memory, bytes_from}
use Rattle.chi_lanes.specs.Packet.{in_lanes}
use Rattle.chi_lanes.proofs.ByteLists.{AreBytes-append}
use Rattle.chi_lanes.proofs.MemoryLemmas.{AreBytes-bytes_from, length-bytes_from}
use Rattle.chi_lanes.proofs.Operands.{placed}
use Rattle.chi_json.specs.Object.{IsReadBack}
use Rattle.chi_json.proofs.ObjectLemmas.{bytes_read}
use Rattle.chi_json.proofs.WalkLemmas.{at_ok}
use Rattle.chi_json.proofs.WordLemmas.{AreDecoded-decode_sized}
use Rattle.chi_trace.proofs.Decided.{IsWithin, accessed}
use Rattle.chi_run_laws.proofs.Reading.{IsReply, fields, same_decision}
use Rattle.chi_script.specs.Script.{IsWritable}
use Rattle.std.specs.Prelude.{Some}

-- it is lawful
pub lawful : (region : Extent) (q : Request) (a : Access) → IsRegion region → IsWritable q → decision q region ≡ Ok a → IsLawful a
lawful region q a is told decided =
    let packet = AreDecoded-decode_sized (encode_lower q.lanes) 16 q.lanes told.lanes in
    let within : IsWithin a =
    at_ok _ a IsWithin (same_decision 0 region q ∙ decided)
    (accessed (Some region) (fields 0 q) (record { bits = omega (arith, told.be); whole = packet.0; bytes = packet.1 }) is) in
    within.lawful

zeros : (n : ℕ) → AreBytes (replicate n 0)
zeros zero i = lit< tt
zeros (suc n) zero = lit< tt
zeros (suc n) (suc i) = zeros n i

-- the data that it returns are sixteen bytes
packet_read : (a : Access) (m : Memory) → IsMemory m → IsLawful a → IsReadBack 16 (in_lanes (lane_of a.addr) (old a m))
packet_read a m is_m is =
    let l : ℕ = lane_of a.addr in
    let bs : List ℕ = bytes_from m a.addr a.len in
    let rest : List ℕ = replicate (16 - l - length bs) 0 in
    let start : List ℕ = replicate l 0 in
    let room : l + a.len ≤ 16 = (placed a.addr a.len is.part is.aligned).packet in
    let bytes : length bs ≡ a.len = length-bytes_from m a.addr a.len in
    let front : length start ≡ l = length-replicate l 0 in
    let back : length rest ≡ 16 - l - length bs = length-replicate (16 - l - length bs) 0 in
    let inner : length (bs ++ rest) ≡ length bs + length rest = length-append bs rest in
    let outer : length (start ++ (bs ++ rest)) ≡ length start + length (bs ++ rest) = length-append start (bs ++ rest) in
    bytes_read (in_lanes l bs) 16 (omega (arith, outer, inner, front, back, bytes, room))
    (AreBytes-append start (bs ++ rest) (zeros l) (AreBytes-append bs rest (AreBytes-bytes_from m is_m a.addr a.len) (zeros (16 - l - length bs))))

-- so its answer is read as it was written
pub answer_read : (a : Access) (m : Memory) → IsMemory m → IsLawful a → IsReply (answer a m)
answer_read a m is_m is = by_kind a.kind
  where
    by_kind : (kind : Kind) → IsReply (answer_as kind a m)
    by_kind Read = packet_read a m is_m is
    by_kind Write = tt
    by_kind (Store op) = tt
    by_kind (Load op) = packet_read a m is_m is
    by_kind Swap = packet_read a m is_m is
    by_kind Compare = packet_read a m is_m is
