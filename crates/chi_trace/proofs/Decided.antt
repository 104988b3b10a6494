-- the access that a home decides of a request of a trace is lawful, and lies within 2^52 bytes
use Rattle.std.proofs.Common.{◌≡◌, ℕ, zero, suc, ◌+◌, ◌*◌, ◌/◌, ◌%◌, ◌^◌, ◌==◌, ◌≤◌, nat_le, nat_lt, ◌||◌, not, Bool, true, false, if◌then◌else◌, Option, Some, None, Result, Ok, Err, IfOk, IfSome, inl, inr, refl, eqb-true, arith}
use Rattle.std.specs.Result.{result_ok}
use Rattle.std.proofs.lemmas.Bool.{and_parts, leb-true, ltb-false, not-false, or_parts}
use Rattle.chi_fields.specs.Access.{Access, IsLawful, IsLen, enables_fit, lane_of}
use Rattle.chi_fields.specs.Extent.{Extent, IsRegion, lies_in, region_of}
use Rattle.chi_fields.specs.Opcode.{kind_of}
use Rattle.chi_fields.specs.Refusal.{access_as, decision, decision_as, decision_of, is_in_profile, len_of}
use Rattle.chi_fields.specs.declared.kind.Kind.{Kind}
use Rattle.chi_fields.specs.declared.kind.Kind.TheVariants.{Read, Write, Store, Load, Swap, Compare}
use Rattle.chi_fields.specs.declared.refusal.Refusal.TheVariants.{BadByteEnable, Misaligned, OutOfRegion, ReservedSize, SizeOutOfProfile}
use Rattle.chi_fields.specs.declared.region.RegionFault.TheVariants.{BaseNotLineAligned, EndPastAddresses, GranuleCount}
use Rattle.chi_fields.specs.declared.request.Request.{Request}
use Rattle.chi_trace.specs.RequestFields.{IsPacket, access_of, line_of, request_of}
use Rattle.chi_trace.specs.declared.request_fields.RequestFields.{RequestFields}

-- after a test that is to fail
pub unless : {A E : Type 0} (b : Bool) (e : E) (r : Result A E) (P : A → Type 0) → (b ≡ false → IfOk r P) → IfOk (if b then Err e else r) P
unless true e r P h = tt
unless false e r P h = h refl

-- where a fault is told as no value
pub value_of : {A E : Type 0} (r : Result A E) (P : A → Type 0) → IfOk r P → IfSome (result_ok r) P
value_of (Ok a) P h = h
value_of (Err e) P h = tt

-- a region that is not refused is one
pub region_lawful : (base granules : ℕ) → IfOk (region_of base granules) IsRegion
region_lawful base granules =
    unless (not (base % 64 == 0)) BaseNotLineAligned _ IsRegion (λ aligned.
    unless (nat_lt granules 1 || nat_lt 512 granules) GranuleCount _ IsRegion (λ counted.
    unless (nat_lt (2 ^ 52) (base + 8 * granules)) EndPastAddresses (Ok (record { base = base; granules = granules })) IsRegion (λ ended.
    let counts = or_parts (nat_lt granules 1) (nat_lt 512 granules) counted in
    record {
      line = eqb-true (base % 64) 0 (not-false _ aligned);
      least = ltb-false granules 1 counts.0;
      most = ltb-false 512 granules counts.1;
      end = ltb-false (2 ^ 52) (base + 8 * granules) ended;
    })))

-- the operand's length is one of four, by the sizes of the profile
len_power : (n : ℕ) → n ≤ 3 → IsLen (2 ^ n)
len_power zero few = inl refl
len_power (suc zero) few = inr (inl refl)
len_power (suc (suc zero)) few = inr (inr (inl refl))
len_power (suc (suc (suc zero))) few = inr (inr (inr refl))
len_power (suc (suc (suc (suc n)))) few = absurd (omega arith)

len_half : (n : ℕ) → 1 ≤ n → n ≤ 4 → IsLen (2 ^ n / 2)
len_half zero some few = absurd (omega arith)
len_half (suc zero) some few = inl refl
len_half (suc (suc zero)) some few = inr (inl refl)
len_half (suc (suc (suc zero))) some few = inr (inr (inl refl))
len_half (suc (suc (suc (suc zero)))) some few = inr (inr (inr refl))
len_half (suc (suc (suc (suc (suc n))))) some few = absurd (omega arith)

len_within : (kind : Kind) (size : ℕ) → is_in_profile kind size ≡ true → IsLen (len_of kind size)
len_within Read size fits = len_power size (leb-true size 3 fits)
len_within Write size fits = len_power size (leb-true size 3 fits)
len_within (Store op) size fits = len_power size (leb-true size 3 fits)
len_within (Load op) size fits = len_power size (leb-true size 3 fits)
len_within Swap size fits = len_power size (leb-true size 3 fits)
len_within Compare size fits =
    let parts = and_parts (nat_le 1 size) (nat_le size 4) fits in len_half size (leb-true 1 size parts.0) (leb-true size 4 parts.1)

-- what a home has tested of a request of a kind that it accepts
pub record Passes (kind : Kind) (q : Request) (region : Extent) : Type 0 where
  pub sized : is_in_profile kind q.size ≡ true
  pub aligned : q.addr % len_of kind q.size ≡ 0
  pub below : q.addr + len_of kind q.size ≤ region.base + 8 * region.granules
  pub enabled : enables_fit kind (len_of kind q.size) (lane_of q.addr) q.be ≡ true

passes_as : (kind : Kind) (q : Request) (region : Extent) (P : Access → Type 0) → (Passes kind q region → P (access_as kind q)) → IfOk (decision_as kind q region) P
unfolding decision_as
passes_as kind q region P holds =
    unless (nat_le 7 q.size) ReservedSize _ P (λ small.
    unless (not (is_in_profile kind q.size)) SizeOutOfProfile _ P (λ sized.
    unless (not (q.addr % len_of kind q.size == 0)) Misaligned _ P (λ aligned.
    unless (not (lies_in q.addr (len_of kind q.size) region)) OutOfRegion _ P (λ within.
    unless (not (enables_fit kind (len_of kind q.size) (lane_of q.addr) q.be)) BadByteEnable (Ok (access_as kind q)) P (λ enabled.
    let inside = and_parts (nat_le region.base q.addr) (nat_le (q.addr + len_of kind q.size) (region.base + 8 * region.granules)) (not-false _ within) in
    holds (record {
      sized = not-false _ sized;
      aligned = eqb-true (q.addr % len_of kind q.size) 0 (not-false _ aligned);
      below = leb-true (q.addr + len_of kind q.size) (region.base + 8 * region.granules) inside.1;
      enabled = not-false _ enabled;
    }))))))

-- what is so of each access that passes is so of the one that a home decides
pub decided : (q : Request) (region : Extent) (P : Access → Type 0)
    → ((kind : Kind) → kind_of q.opcode ≡ Some kind → Passes kind q region → P (access_as kind q)) → IfOk (decision q region) P
decided q region P holds = by_kind (kind_of q.opcode) refl
  where
    by_kind : (kind : Option Kind) → kind_of q.opcode ≡ kind → IfOk (decision_of kind q region) P
    by_kind (Some kind) is = passes_as kind q region P (holds kind is)
    by_kind None is = tt

pub accessed_so : (region : Option Extent) (a : RequestFields) (P : Access → Type 0) → IfSome region IsRegion
    → ((r : Extent) (kind : Kind) → IsRegion r → Passes kind (request_of a) r → P (access_as kind (request_of a))) → IfOk (access_of region a) P
accessed_so (Some region) a P is holds = decided (request_of a) region P (λ kind named. holds region kind is)
accessed_so None a P is holds = by_line (line_of a.addr) refl (value_of (region_of (a.addr / 64 * 64) 8) IsRegion (region_lawful (a.addr / 64 * 64) 8))
  where
    by_line : (line : Option Extent) → line_of a.addr ≡ line → IfSome line IsRegion → IfOk (access_of None a) P
    by_line (Some line) same is = rw same (decided (request_of a) line P (λ kind named. holds line kind is))
    by_line None same is = rw same tt

-- the access is lawful and lies within 2^52 bytes
pub record IsWithin (a : Access) : Type 0 where
  pub lawful : IsLawful a
  pub below : a.addr + a.len ≤ 2 ^ 52

pub accessed : (region : Option Extent) (a : RequestFields) → IsPacket a.be a.lanes → IfSome region IsRegion → IfOk (access_of region a) IsWithin
accessed region a has is = accessed_so region a IsWithin is within
  where
    within : (r : Extent) (kind : Kind) → IsRegion r → Passes kind (request_of a) r → IsWithin (access_as kind (request_of a))
    within r kind region_is passes = record {
      lawful = record {
        part = len_within kind a.size passes.sized;
        aligned = passes.aligned;
        bits = has.bits;
        enabled = passes.enabled;
        packet = has.whole;
        bytes = has.bytes;
      };
      below = omega (arith, passes.below, region_is.end);
    }
