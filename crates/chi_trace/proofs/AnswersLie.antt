-- what an access answers has no fault: its data stand in the operand's lanes, and the others are 0
use Rattle.std.proofs.Common.{◌≡◌, ℕ, zero, suc, ◌+◌, ◌-◌, true, List, [], ◌∷◌, ◌++◌, length, replicate, take, drop, Some, None, refl, sym, ap, ◌∙◌, arith}
use Rattle.std.specs.Prelude.{◌&&◌}
use Rattle.chi_fields.specs.Access.{Access, lane_of}
use Rattle.chi_fields.specs.declared.kind.Kind.{Kind}
use Rattle.chi_fields.specs.declared.kind.Kind.TheVariants.{Read, Write, Store, Load, Swap, Compare}
use Rattle.chi_lanes.specs.After.{answer, old}
use Rattle.chi_lanes.specs.Memory.{Memory}
use Rattle.chi_lanes.specs.Packet.{in_lanes}
use Rattle.chi_lanes.proofs.MemoryLemmas.{length-bytes_from}
use Rattle.chi_trace.specs.Replies.{are_zero, is_within, reply_fault}

zeros : (n : ℕ) → are_zero (replicate n 0) ≡ true
zeros zero = refl
zeros (suc n) = zeros n

-- the lanes before the operand
before : (l : ℕ) (rest : List ℕ) → are_zero (take l (replicate l 0 ++ rest)) ≡ true
before zero rest = refl
before (suc l) rest = before l rest

-- those after it
past : (n : ℕ) (bytes : List ℕ) → are_zero (drop (length bytes) (bytes ++ replicate n 0)) ≡ true
past n [] = zeros n
past n (byte ∷ bytes) = past n bytes

after : (l n : ℕ) (bytes : List ℕ) → are_zero (drop (l + length bytes) (replicate l 0 ++ (bytes ++ replicate n 0))) ≡ true
after zero n bytes = let e : 0 + length bytes ≡ length bytes = omega arith in rw e (past n bytes)
after (suc l) n bytes = let e : suc l + length bytes ≡ suc (l + length bytes) = omega arith in rw e (after l n bytes)

lies : (l len : ℕ) (bytes : List ℕ) → length bytes ≡ len → is_within l len (in_lanes l bytes) ≡ true
lies l len bytes long =
    ap (λ b. b && are_zero (drop (l + len) (in_lanes l bytes))) (before l (bytes ++ replicate (16 - l - length bytes) 0))
    ∙ (ap (λ n. are_zero (drop (l + n) (in_lanes l bytes))) (sym long) ∙ after l (16 - l - length bytes) bytes)

-- the answer of an access has no fault
pub answer_is_faultless : (o : Access) (m : Memory) → reply_fault o (Some (answer o m)) ≡ None
answer_is_faultless o m = by_kind o.kind refl
  where
    within : is_within (lane_of o.addr) o.len (in_lanes (lane_of o.addr) (old o m)) ≡ true
    within = lies (lane_of o.addr) o.len (old o m) (length-bytes_from m o.addr o.len)

    by_kind : (kind : Kind) → o.kind ≡ kind → reply_fault o (Some (answer o m)) ≡ None
    by_kind Write is = rw is refl
    by_kind (Store op) is = rw is refl
    by_kind Read is = rw (is, within) refl
    by_kind (Load op) is = rw (is, within) refl
    by_kind Swap is = rw (is, within) refl
    by_kind Compare is = rw (is, within) refl
