-- an access tells the opcode and the size of its request
use Rattle.std.proofs.Common.{◌≡◌, ℕ, zero, suc, ◌+◌, ◌-◌, ◌/◌, ◌^◌, ◌==◌, ◌≤◌, ◌<◌, nat_le, ◌&&◌, Bool, true, false, if◌then◌else◌, Some, None, IfOk, refl, sym, subst, eqb-true, arith}
use Rattle.std.proofs.lemmas.Bool.{and_parts, leb-true}
use Rattle.chi_fields.specs.Extent.{Extent}
use Rattle.chi_fields.specs.Opcode.{kind_of, numbered_op, op_number}
use Rattle.chi_fields.specs.Refusal.{decision, is_in_profile, len_of}
use Rattle.chi_fields.specs.declared.kind.Kind.{Kind}
use Rattle.chi_fields.specs.declared.kind.Kind.TheVariants.{Read, Write, Store, Load, Swap, Compare}
use Rattle.chi_fields.specs.declared.kind.Op.{Op}
use Rattle.chi_fields.specs.declared.kind.Op.TheVariants.{Add, Clr, Eor, Set, SMax, SMin, UMax, UMin}
use Rattle.chi_fields.specs.declared.request.Request.{Request}
use Rattle.chi_trace.specs.Fields.{opcode_of, size_of}
use Rattle.chi_trace.proofs.Decided.{decided}

-- an operation is one of eight
pub op_below : (op : Op) → op_number op < 8
op_below Add = omega arith
op_below Clr = omega arith
op_below Eor = omega arith
op_below Set = omega arith
op_below SMax = omega arith
op_below SMin = omega arith
op_below UMax = omega arith
op_below UMin = omega arith

op_number-numbered_op : (n : ℕ) → n ≤ 7 → op_number (numbered_op n) ≡ n
op_number-numbered_op zero few = refl
op_number-numbered_op (suc zero) few = refl
op_number-numbered_op (suc (suc zero)) few = refl
op_number-numbered_op (suc (suc (suc zero))) few = refl
op_number-numbered_op (suc (suc (suc (suc zero)))) few = refl
op_number-numbered_op (suc (suc (suc (suc (suc zero))))) few = refl
op_number-numbered_op (suc (suc (suc (suc (suc (suc zero)))))) few = refl
op_number-numbered_op (suc (suc (suc (suc (suc (suc (suc zero))))))) few = refl
op_number-numbered_op (suc (suc (suc (suc (suc (suc (suc (suc n)))))))) few = absurd (omega arith)

-- of eight opcodes in a row, the first of which has this number
in_row : (first n : ℕ) → first ≤ n → n ≤ first + 7 → first + op_number (numbered_op (n - first)) ≡ n
in_row first n from to = let same = op_number-numbered_op (n - first) (omega arith) in omega (arith, same)

-- the opcode of the kind that an opcode names
opcode_of-kind_of : (n : ℕ) (kind : Kind) → kind_of n ≡ Some kind → opcode_of kind ≡ n
opcode_of-kind_of n kind is = by_read (n == 0x04) refl is
  where
    named : (k : Kind) → Some k ≡ Some kind → opcode_of k ≡ n → opcode_of kind ≡ n
    named k same opcode = let here : k ≡ kind = cc same in subst (λ x. opcode_of x ≡ n) here opcode

    by_compare : (b : Bool) → (n == 0x39) ≡ b → (if b then Some Compare else None) ≡ Some kind → opcode_of kind ≡ n
    by_compare true test named_so = named Compare named_so (sym (eqb-true n 0x39 test))
    by_compare false test named_so = cc named_so

    by_swap : (b : Bool) → (n == 0x38) ≡ b → (if b then Some Swap else if n == 0x39 then Some Compare else None) ≡ Some kind → opcode_of kind ≡ n
    by_swap true test named_so = named Swap named_so (sym (eqb-true n 0x38 test))
    by_swap false test named_so = by_compare (n == 0x39) refl named_so

    by_load : (b : Bool) → (nat_le 0x30 n && nat_le n 0x37) ≡ b
        → (if b then Some (Load (numbered_op (n - 0x30))) else if n == 0x38 then Some Swap else if n == 0x39 then Some Compare else None) ≡ Some kind → opcode_of kind ≡ n
    by_load true test named_so =
        let parts = and_parts (nat_le 0x30 n) (nat_le n 0x37) test in
        named (Load (numbered_op (n - 0x30))) named_so (in_row 0x30 n (leb-true 0x30 n parts.0) (leb-true n 0x37 parts.1))
    by_load false test named_so = by_swap (n == 0x38) refl named_so

    by_store : (b : Bool) → (nat_le 0x28 n && nat_le n 0x2f) ≡ b
        → (if b then Some (Store (numbered_op (n - 0x28))) else if nat_le 0x30 n && nat_le n 0x37 then Some (Load (numbered_op (n - 0x30)))
        else if n == 0x38 then Some Swap else if n == 0x39 then Some Compare else None) ≡ Some kind → opcode_of kind ≡ n
    by_store true test named_so =
        let parts = and_parts (nat_le 0x28 n) (nat_le n 0x2f) test in
        named (Store (numbered_op (n - 0x28))) named_so (in_row 0x28 n (leb-true 0x28 n parts.0) (leb-true n 0x2f parts.1))
    by_store false test named_so = by_load (nat_le 0x30 n && nat_le n 0x37) refl named_so

    by_write : (b : Bool) → (n == 0x1c) ≡ b
        → (if b then Some Write else if nat_le 0x28 n && nat_le n 0x2f then Some (Store (numbered_op (n - 0x28))) else if nat_le 0x30 n && nat_le n 0x37 then Some (Load (numbered_op (n - 0x30)))
        else if n == 0x38 then Some Swap else if n == 0x39 then Some Compare else None) ≡ Some kind → opcode_of kind ≡ n
    by_write true test named_so = named Write named_so (sym (eqb-true n 0x1c test))
    by_write false test named_so = by_store (nat_le 0x28 n && nat_le n 0x2f) refl named_so

    by_read : (b : Bool) → (n == 0x04) ≡ b
        → (if b then Some Read else if n == 0x1c then Some Write else if nat_le 0x28 n && nat_le n 0x2f then Some (Store (numbered_op (n - 0x28)))
        else if nat_le 0x30 n && nat_le n 0x37 then Some (Load (numbered_op (n - 0x30))) else if n == 0x38 then Some Swap else if n == 0x39 then Some Compare else None) ≡ Some kind
        → opcode_of kind ≡ n
    by_read true test named_so = named Read named_so (sym (eqb-true n 0x04 test))
    by_read false test named_so = by_write (n == 0x1c) refl named_so

-- the size of the operand that a size stands for
size_power : (n : ℕ) → n ≤ 3 → size_of Read (2 ^ n) ≡ n
size_power zero few = refl
size_power (suc zero) few = refl
size_power (suc (suc zero)) few = refl
size_power (suc (suc (suc zero))) few = refl
size_power (suc (suc (suc (suc n)))) few = absurd (omega arith)

size_half : (n : ℕ) → 1 ≤ n → n ≤ 4 → size_of Compare (2 ^ n / 2) ≡ n
size_half zero some few = absurd (omega arith)
size_half (suc zero) some few = refl
size_half (suc (suc zero)) some few = refl
size_half (suc (suc (suc zero))) some few = refl
size_half (suc (suc (suc (suc zero)))) some few = refl
size_half (suc (suc (suc (suc (suc n))))) some few = absurd (omega arith)

size_of-len_of : (kind : Kind) (size : ℕ) → is_in_profile kind size ≡ true → size_of kind (len_of kind size) ≡ size
size_of-len_of Read size fits = size_power size (leb-true size 3 fits)
size_of-len_of Write size fits = size_power size (leb-true size 3 fits)
size_of-len_of (Store op) size fits = size_power size (leb-true size 3 fits)
size_of-len_of (Load op) size fits = size_power size (leb-true size 3 fits)
size_of-len_of Swap size fits = size_power size (leb-true size 3 fits)
size_of-len_of Compare size fits =
    let parts = and_parts (nat_le 1 size) (nat_le size 4) fits in size_half size (leb-true 1 size parts.0) (leb-true size 4 parts.1)

pub fields_told : (q : Request) (region : Extent) → IfOk (decision q region) (λ access. (opcode_of access.kind ≡ q.opcode) × (size_of access.kind access.len ≡ q.size))
fields_told q region =
    decided q region (λ access. (opcode_of access.kind ≡ q.opcode) × (size_of access.kind access.len ≡ q.size))
    (λ kind named passes. (opcode_of-kind_of q.opcode kind named, size_of-len_of kind q.size passes.sized))
