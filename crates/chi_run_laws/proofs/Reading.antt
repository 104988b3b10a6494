-- the requests of a run's trace, as they are read
use Rattle.std.proofs.Common.{◌≡◌, ℕ, ◌-◌, ◌^◌, ◌≤◌, nat_lt, Bool, true, false, List, length, Option, None, Some, Ok, Err, refl, ap, ◌∙◌, arith}
use Rattle.std.specs.Prelude.{codes}
use Rattle.std.specs.Str.{bytes_eq}
use Rattle.std.proofs.lemmas.Bool.{le-ltb}
use Rattle.std.proofs.lemmas.Slice.Eq.{bytes_eq-Decides}
use Rattle.hex.specs.Hex.{encode_lower}
use Rattle.hex.proofs.HexLemmas.{decode_sized-ok}
use Rattle.serde_json.specs.Data.{Data, Members, number, object, put, string}
use Rattle.chi_fields.specs.Access.{Access}
use Rattle.chi_fields.specs.Extent.{Extent}
use Rattle.chi_fields.specs.Opcode.{kind_of}
use Rattle.chi_fields.specs.Refusal.{decision, decision_as, decision_of, name_of}
use Rattle.chi_fields.specs.declared.kind.Kind.{Kind}
use Rattle.chi_fields.specs.declared.refusal.Refusal.{Refusal}
use Rattle.chi_fields.specs.declared.refusal.Refusal.TheVariants.{UnknownOpcode, ReservedSize, SizeOutOfProfile, Misaligned, OutOfRegion, BadByteEnable}
use Rattle.chi_fields.specs.declared.request.Request.{Request}
use Rattle.chi_lanes.specs.After.{answer}
use Rattle.chi_lanes.specs.Memory.{Memory}
use Rattle.chi_lanes.specs.declared.reply.Reply.{Reply}
use Rattle.chi_lanes.specs.declared.reply.Reply.TheVariants.{Comp, CompData}
use Rattle.chi_json.proofs.ObjectLemmas.{number_here, order_here, order_within}
use Rattle.chi_json.specs.Object.{IsReadBack, byte_order, with_bytes, with_number, with_request, with_text}
use Rattle.chi_reading.specs.Member.{member_name}
use Rattle.chi_reading.specs.Refused.{is_refused_so, refusal_of}
use Rattle.chi_trace.specs.RequestFields.{request_of}
use Rattle.chi_reading.specs.Requests.{completed_at, end_of, fields_of, observed_of, one_accepted, one_refused, refused_of, seen_of, stated_at, stated_of, stated_request}
use Rattle.chi_json.specs.Unknown.{is_known, unknown_in}
use Rattle.chi_trace.specs.declared.request_fields.RequestFields.{RequestFields}
use Rattle.chi_reading.specs.declared.member.Member.TheVariants.{Src, Txn, Opcode, Size, Addr, Endian, Be, Start, End}
use Rattle.chi_engine.specs.Trace.{taken_at, with_reply}
use Rattle.chi_run_laws.specs.Executed.{done_at}
use Rattle.chi_script.specs.Script.{IsWritable}

-- the same request, as a trace has it with this number
abbrev pub fields : ℕ → Request → RequestFields
fields n q = record { number = n; src = q.src; txn = q.txn; opcode = q.opcode; size = q.size; addr = q.addr; endian = q.endian; be = q.be; lanes = q.lanes }

-- the request of an object that was made of one, with a member `reply` more
asked_answered : (time : ℕ) (q : Request) (x : Data) → IsWritable q → stated_request time (object (put (codes "reply") x (taken_at time q))) ≡ Ok (fields time q)
unfolding stated_request fields_of taken_at with_request with_number with_bytes
asked_answered time q x told =
    let d : Data = object (put (codes "reply") x (taken_at time q)) in
    rw (
      number_here member_name Src 65535 q.src d refl (omega (arith, told.src)),
      number_here member_name Txn 65535 q.txn d refl (omega (arith, told.txn)),
      number_here member_name Opcode 255 q.opcode d refl told.opcode,
      number_here member_name Size 7 q.size d refl told.size,
      number_here member_name Addr (2 ^ 64 - 1) q.addr d refl told.addr,
      number_here member_name Endian 1 (byte_order q.endian) d refl (order_within q.endian),
      number_here member_name Be 65535 q.be d refl told.be,
      told.lanes,
      order_here q.endian,
    ) refl

-- the request of an object that was made of one, with a member `refused` more
asked_refused : (time : ℕ) (q : Request) (x : Data) → IsWritable q → stated_request time (object (put (codes "refused") x (taken_at time q))) ≡ Ok (fields time q)
unfolding stated_request fields_of taken_at with_request with_number with_bytes
asked_refused time q x told =
    let d : Data = object (put (codes "refused") x (taken_at time q)) in
    rw (
      number_here member_name Src 65535 q.src d refl (omega (arith, told.src)),
      number_here member_name Txn 65535 q.txn d refl (omega (arith, told.txn)),
      number_here member_name Opcode 255 q.opcode d refl told.opcode,
      number_here member_name Size 7 q.size d refl told.size,
      number_here member_name Addr (2 ^ 64 - 1) q.addr d refl told.addr,
      number_here member_name Endian 1 (byte_order q.endian) d refl (order_within q.endian),
      number_here member_name Be 65535 q.be d refl told.be,
      told.lanes,
      order_here q.endian,
    ) refl

-- a data packet is not the text `comp`
no_comp : (lanes : List ℕ) → IsReadBack 16 lanes → bytes_eq (encode_lower lanes) (codes "comp") ≡ false
no_comp lanes back = by_test (bytes_eq (encode_lower lanes) (codes "comp")) refl
  where
    by_test : (b : Bool) → bytes_eq (encode_lower lanes) (codes "comp") ≡ b → b ≡ false
    by_test false is = refl
    by_test true is =
        let same : encode_lower lanes ≡ codes "comp" = (bytes_eq-Decides (encode_lower lanes) (codes "comp")).0 is in
        let digits : length (encode_lower lanes) ≡ 32 = decode_sized-ok (encode_lower lanes) 16 lanes back in
        let four : length (encode_lower lanes) ≡ 4 = ap length same in
        absurd (omega (arith, digits, four))

-- what a reply is written as
abbrev pub reply_data : Reply → Data
reply_data Comp = string (codes "comp")
reply_data (CompData lanes) = string (encode_lower lanes)

with_reply_is : (reply : Reply) (ms : Members) → with_reply reply ms ≡ put (codes "reply") (reply_data reply) ms
unfolding with_reply with_text with_bytes
with_reply_is Comp ms = refl
with_reply_is (CompData lanes) ms = refl

-- a reply that can be read back
abbrev pub IsReply : Reply → Type 0
IsReply Comp = Unit {0}
IsReply (CompData lanes) = IsReadBack 16 lanes

reply_read : (reply : Reply) → IsReply reply → seen_of (reply_data reply) ≡ Some (Some reply)
reply_read Comp back = refl
reply_read (CompData lanes) back = rw (no_comp lanes back, back) refl

-- why a request was refused is read as it was written
reason_read : (refusal : Refusal) → refusal_of (string (name_of refusal)) ≡ Some refusal
reason_read UnknownOpcode = refl
reason_read ReservedSize = refl
reason_read SizeOutOfProfile = refl
reason_read Misaligned = refl
reason_read OutOfRegion = refl
reason_read BadByteEnable = refl

-- a home that refuses a request for a reason refuses it so
refused_so : (refusal : Refusal) → is_refused_so refusal (Err refusal) ≡ true
refused_so UnknownOpcode = refl
refused_so ReservedSize = refl
refused_so SizeOutOfProfile = refl
refused_so Misaligned = refl
refused_so OutOfRegion = refl
refused_so BadByteEnable = refl

-- a home does not look at the requester and the transaction
pub same_decision : (place : ℕ) (region : Extent) (q : Request) → decision (request_of (fields place q)) region ≡ decision q region
unfolding decision_as
same_decision place region q = by_kind (kind_of q.opcode)
  where
    by_kind : (k : Option Kind) → decision_of k (request_of (fields place q)) region ≡ decision_of k q region
    by_kind None = refl
    by_kind (Some kind) = refl

no_later : (time : ℕ) → nat_lt time time ≡ false
no_later time = le-ltb time time (omega arith)

-- a request that was answered reads as its operation
answered_reads : (region : Extent) (place : ℕ) (q : Request) (a : Access) (reply : Reply) (x : Data) → IsWritable q → place ≤ 2 ^ 64 - 1 → seen_of x ≡ Some (Some reply)
    → decision q region ≡ Ok a → completed_at place (Some region) (object (put (codes "reply") x (taken_at place q))) ≡ Ok (one_accepted (done_at place q reply a))
unfolding completed_at stated_at stated_of end_of observed_of unknown_in is_known taken_at with_request with_number with_bytes
answered_reads region place q a reply x told within seen is =
    let d : Data = object (put (codes "reply") x (taken_at place q)) in
    rw (
      asked_answered place q x told,
      number_here member_name Start (2 ^ 64 - 1) place d refl within,
      number_here member_name End (2 ^ 64 - 1) place d refl within,
      seen,
      same_decision place region q,
      is,
      no_later place,
    ) refl

-- so does one that was completed
pub completed_reads : (region : Extent) (place : ℕ) (q : Request) (a : Access) (m : Memory) → IsWritable q → place ≤ 2 ^ 64 - 1 → IsReply (answer a m) → decision q region ≡ Ok a
    → completed_at place (Some region) (object (with_reply (answer a m) (taken_at place q))) ≡ Ok (one_accepted (done_at place q (answer a m) a))
completed_reads region place q a m told within back is =
    ap (λ (ms : Members). completed_at place (Some region) (object ms)) (with_reply_is (answer a m) (taken_at place q))
    ∙ answered_reads region place q a (answer a m) (reply_data (answer a m)) told within (reply_read (answer a m) back) is

-- one that was refused reads as its refusal
pub refused_reads : (region : Extent) (place : ℕ) (q : Request) (refusal : Refusal) → IsWritable q → place ≤ 2 ^ 64 - 1 → decision q region ≡ Err refusal
    → completed_at place (Some region) (object (with_text (codes "refused") (name_of refusal) (taken_at place q))) ≡ Ok (one_refused refusal)
unfolding completed_at stated_at stated_of end_of refused_of unknown_in is_known with_text taken_at with_request with_number with_bytes
refused_reads region place q refusal told within is =
    let x : Data = string (name_of refusal) in
    let d : Data = object (put (codes "refused") x (taken_at place q)) in
    rw (
      asked_refused place q x told,
      number_here member_name Start (2 ^ 64 - 1) place d refl within,
      number_here member_name End (2 ^ 64 - 1) place d refl within,
      reason_read refusal,
      same_decision place region q,
      is,
      refused_so refusal,
      no_later place,
    ) refl
