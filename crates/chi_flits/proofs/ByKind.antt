-- what a home decides of a request of a kind whose operand lies in its line: it refuses it by its byte enables alone, as an atomic
use Rattle.std.specs.Prelude.{◌<◌, ◌^◌, ◌/◌, ◌%◌, ◌==◌, ◌⊎◌, if◌then◌else◌, nat_le}
use Rattle.std.proofs.Common.{◌≡◌, ℕ, ◌+◌, ◌*◌, ◌-◌, ◌≤◌, Bool, true, false, not, Option, Some, None, Result, Ok, Err, inl, inr, refl, sym, ap, subst, ◌∙◌, eq-eqb, ne_eqb, arith}
use Rattle.std.proofs.lemmas.Bool.{and_from, cases_lt, le-leb, lt-leb, le-ltb, not_from_true, true≢false, false≢true}
use Rattle.chi_fields.specs.Access.{Access, enables_fit, lane_of}
use Rattle.chi_fields.specs.Extent.{Extent, lies_in}
use Rattle.chi_fields.specs.Opcode.{kind_of, numbered_op}
use Rattle.chi_fields.specs.Refusal.{access_as, decision_as, decision_of, is_in_profile, len_of}
use Rattle.chi_fields.specs.declared.kind.Kind.{Kind}
use Rattle.chi_fields.specs.declared.kind.Kind.TheVariants.{Store, Load, Swap}
use Rattle.chi_fields.specs.declared.refusal.Refusal.{Refusal}
use Rattle.chi_fields.specs.declared.refusal.Refusal.TheVariants.{BadByteEnable, Misaligned, OutOfRegion, ReservedSize, SizeOutOfProfile}
use Rattle.chi_trace.specs.RequestFields.{access_of, line_of, request_of}
use Rattle.chi_trace.specs.declared.request_fields.RequestFields.{RequestFields}
use Rattle.chi_flits.specs.Opcodes.{is_atomic}
use Rattle.chi_flits.proofs.Operands.{Lies}
use Rattle.chi_flits.proofs.Ready.{IsDecided}

past : (opcode : ℕ) (b : Bool) (e : Refusal) (r : Result Access Refusal) → b ≡ false → IsDecided opcode r → IsDecided opcode (if b then Err e else r)
past opcode true e r is decided = absurd (true≢false is)
past opcode false e r is decided = decided

-- the byte enables fit, or are those of an atomic
abbrev pub IsJudged : Kind → RequestFields → Type 0
IsJudged kind a = (enables_fit kind (len_of kind a.size) (lane_of a.addr) a.be ≡ true) ⊎ (is_atomic a.opcode ≡ true)

by_enables : (opcode : ℕ) (b : Bool) (a : Access) → (b ≡ true) ⊎ (is_atomic opcode ≡ true) → IsDecided opcode (if not b then Err BadByteEnable else Ok a)
by_enables opcode true a judged = tt
by_enables opcode false a (inl fits) = absurd (false≢true fits)
by_enables opcode false a (inr atomic) = (refl, atomic)

-- the line that has an address
line_at : (addr : ℕ) → addr < 2 ^ 52 → line_of addr ≡ Some (record { base = addr / 64 * 64; granules = 8 })
line_at addr below = rw (eq-eqb (addr / 64 * 64 % 64) 0 (omega arith), le-ltb (2 ^ 52) (addr / 64 * 64 + 64) (omega arith)) refl

decided_as : (kind : Kind) (a : RequestFields) → is_in_profile kind a.size ≡ true → a.size ≤ 6 → Lies a.addr (len_of kind a.size) → IsJudged kind a
    → IsDecided a.opcode (decision_as kind (request_of a) (record { base = a.addr / 64 * 64; granules = 8 }))
unfolding decision_as
decided_as kind a sized small lies judged =
    let region : Extent = record { base = a.addr / 64 * 64; granules = 8 } in
    past a.opcode (nat_le 7 a.size) ReservedSize _ (lt-leb 7 a.size (omega arith))
    (past a.opcode (not (is_in_profile kind a.size)) SizeOutOfProfile _ (not_from_true (is_in_profile kind a.size) sized)
    (past a.opcode (not (a.addr % len_of kind a.size == 0)) Misaligned _ (not_from_true (a.addr % len_of kind a.size == 0) (eq-eqb (a.addr % len_of kind a.size) 0 lies.aligned))
    (past a.opcode (not (lies_in a.addr (len_of kind a.size) region)) OutOfRegion _
    (not_from_true (lies_in a.addr (len_of kind a.size) region)
    (and_from (nat_le region.base a.addr) (nat_le (a.addr + len_of kind a.size) (region.base + 8 * region.granules)) (le-leb region.base a.addr (omega arith))
    (le-leb (a.addr + len_of kind a.size) (region.base + 8 * region.granules) (omega (arith, lies.inside)))))
    (by_enables a.opcode (enables_fit kind (len_of kind a.size) (lane_of a.addr) a.be) (access_as kind (request_of a)) judged))))

pub decided_by : (a : RequestFields) (kind : Kind) → kind_of a.opcode ≡ Some kind → is_in_profile kind a.size ≡ true → a.size ≤ 6 → Lies a.addr (len_of kind a.size) → IsJudged kind a
    → IsDecided a.opcode (access_of None a)
decided_by a kind named sized small lies judged =
    rw (line_at a.addr lies.below)
    (subst (λ (k : Option Kind). IsDecided a.opcode (decision_of k (request_of a) (record { base = a.addr / 64 * 64; granules = 8 }))) (sym named)
    (decided_as kind a sized small lies judged))

-- a kind whose size counts its operand alone
pub record IsPlain (kind : Kind) : Type 0 where
  pub len : (size : ℕ) → len_of kind size ≡ 2 ^ size
  pub profile : (size : ℕ) → is_in_profile kind size ≡ nat_le size 3

pub plain_decided : (a : RequestFields) (kind : Kind) → kind_of a.opcode ≡ Some kind → IsPlain kind → a.size ≤ 3 → Lies a.addr (2 ^ a.size) → IsJudged kind a → IsDecided a.opcode (access_of None a)
plain_decided a kind named plain small lies =
    decided_by a kind named (plain.profile a.size ∙ le-leb a.size 3 small) (omega arith) (subst (Lies a.addr) (sym (plain.len a.size)) lies)

-- the kind of an atomic that is no AtomicCompare
pub record PlainKind (opcode : ℕ) : Type 0 where
  pub kind : Kind
  pub named : kind_of opcode ≡ Some kind
  pub plain : IsPlain kind

pub atomic_kind : (opcode : ℕ) → 0x28 ≤ opcode → opcode ≤ 0x38 → PlainKind opcode
atomic_kind opcode least most = by_store (cases_lt 0x2f opcode) (cases_lt 0x37 opcode)
  where
    by_store : (0x2f < opcode) ⊎ (opcode ≤ 0x2f) → (0x37 < opcode) ⊎ (opcode ≤ 0x37) → PlainKind opcode
    by_store (inr low) other = record {
      kind = Store (numbered_op (opcode - 0x28));
      named = rw (ne_eqb opcode 0x04 (λ same. absurd (omega arith)), ne_eqb opcode 0x1c (λ same. absurd (omega arith)), le-leb 0x28 opcode least, le-leb opcode 0x2f low) refl;
      plain = record { len = λ size. refl; profile = λ size. refl };
    }
    by_store (inl high) (inr low) = record {
      kind = Load (numbered_op (opcode - 0x30));
      named = rw (
        ne_eqb opcode 0x04 (λ same. absurd (omega arith)),
        ne_eqb opcode 0x1c (λ same. absurd (omega arith)),
        le-leb 0x28 opcode least,
        lt-leb opcode 0x2f high,
        le-leb 0x30 opcode (omega arith),
        le-leb opcode 0x37 low,
      ) refl;
      plain = record { len = λ size. refl; profile = λ size. refl };
    }
    by_store (inl high) (inl higher) =
        let same : opcode ≡ 0x38 = omega arith in
        record { kind = Swap; named = ap kind_of same; plain = record { len = λ size. refl; profile = λ size. refl } }
