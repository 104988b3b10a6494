-- a home refuses no operation that is told, but an atomic by its byte enables
use Rattle.std.specs.Prelude.{◌<◌, ◌^◌, ◌/◌, ◌%◌, ◌==◌, ◌&&◌, ◌||◌, ◌⊎◌, if◌then◌else◌, nat_le, min, bit_and}
use Rattle.std.proofs.Common.{◌≡◌, ℕ, zero, suc, ◌+◌, ◌*◌, ◌≤◌, Bool, true, false, not, None, inl, inr, refl, sym, ap, subst, ◌∙◌, eqb-true, eq-eqb, arith}
use Rattle.std.proofs.lemmas.Bool.{and_parts, cases_eq, or_from, leb-true, true≢false}
use Rattle.chi_fields.specs.Access.{enables_within}
use Rattle.chi_fields.specs.Opcode.{kind_of}
use Rattle.chi_fields.specs.declared.kind.Kind.TheVariants.{Compare, Read, Write}
use Rattle.chi_trace.specs.RequestFields.{access_of}
use Rattle.chi_events.specs.declared.event.Packet.{Packet}
use Rattle.chi_events.specs.Operations.{with_packet}
use Rattle.chi_flits.specs.declared.flit.RequestFlit.{RequestFlit}
use Rattle.chi_flits.specs.Opcodes.{is_atomic, is_compare, is_read, is_write}
use Rattle.chi_flits.specs.Requests.{addr_at, address, bytes_of, count_of, fields_at, first_addr, has_told_size, is_exclusive, is_told, operand_len, quarter_at}
use Rattle.chi_flits.specs.Told.{enables_at}
use Rattle.chi_flits.proofs.ByKind.{atomic_kind, decided_by, plain_decided}
use Rattle.chi_flits.proofs.Masks.{ones_at, within}
use Rattle.chi_flits.proofs.Operands.{Lies, aligned_down, at_granule, at_half, at_length}
use Rattle.chi_flits.proofs.Ready.{IsDecided}

-- a request that is told is of 64 bytes at most
told_size : (q : RequestFlit) → has_told_size q ≡ true → q.size ≤ 6
told_size q sized = by_read (is_read q.opcode || q.opcode == 0x1c) refl sized
  where
    by_compare : (b : Bool) → (if b then nat_le 1 q.size && nat_le q.size 4 else is_atomic q.opcode && nat_le q.size 3) ≡ true → q.size ≤ 6
    by_compare true is = let most = leb-true q.size 4 (and_parts (nat_le 1 q.size) (nat_le q.size 4) is).1 in omega arith
    by_compare false is = let most = leb-true q.size 3 (and_parts (is_atomic q.opcode) (nat_le q.size 3) is).1 in omega arith

    by_full : (b : Bool) → (if b then q.size == 6 else if is_compare q.opcode then nat_le 1 q.size && nat_le q.size 4 else is_atomic q.opcode && nat_le q.size 3) ≡ true → q.size ≤ 6
    by_full true is = let same = eqb-true q.size 6 is in omega arith
    by_full false is = by_compare (is_compare q.opcode) is

    by_read : (b : Bool) → (is_read q.opcode || q.opcode == 0x1c) ≡ b → has_told_size q ≡ true → q.size ≤ 6
    by_read b at is = by_test b (subst (λ b. (if b then nat_le q.size 6 else if q.opcode == 0x1d then q.size == 6 else if is_compare q.opcode then nat_le 1 q.size && nat_le q.size 4 else is_atomic q.opcode && nat_le q.size 3) ≡ true) at is)
      where
        by_test : (b : Bool) → (if b then nat_le q.size 6 else if q.opcode == 0x1d then q.size == 6 else if is_compare q.opcode then nat_le 1 q.size && nat_le q.size 4 else is_atomic q.opcode && nat_le q.size 3) ≡ true → q.size ≤ 6
        by_test true is = leb-true q.size 6 is
        by_test false is = by_full (q.opcode == 0x1d) is

-- it has eight granules at most
granules : (size : ℕ) → size ≤ 6 → 2 ^ min size 7 / 8 ≤ 8
granules zero small = omega arith
granules (suc zero) small = omega arith
granules (suc (suc zero)) small = omega arith
granules (suc (suc (suc zero))) small = omega arith
granules (suc (suc (suc (suc zero)))) small = omega arith
granules (suc (suc (suc (suc (suc zero))))) small = omega arith
granules (suc (suc (suc (suc (suc (suc zero)))))) small = omega arith
granules (suc (suc (suc (suc (suc (suc (suc n))))))) small = absurd (omega arith)

sized : (q : RequestFlit) → is_told q ≡ true → has_told_size q ≡ true
sized q told =
    let parts = and_parts _ (is_write q.opcode || address q % operand_len q == 0) told in
    (and_parts _ (has_told_size q) parts.0).1

pub count_few : (q : RequestFlit) → is_told q ≡ true → count_of q ≤ 8
count_few q told = by_one (is_atomic q.opcode || nat_le q.size 3)
  where
    by_one : (b : Bool) → (if b then 1 else bytes_of q / 8) ≤ 8
    by_one true = omega arith
    by_one false = granules q.size (told_size q (sized q told))

pub quarter_below : (q : RequestFlit) (i : ℕ) → quarter_at q i < 4
quarter_below q i = omega arith

-- the same of a request with an opcode
opcode_so : (q : RequestFlit) (opcode : ℕ) (P : RequestFlit → Type 0) → q.opcode ≡ opcode → P (record q { opcode = opcode }) → P q
opcode_so q opcode P is holds = subst (λ (n : ℕ). P (record q { opcode = n })) (sym is) holds

-- an aligned operand is in its packet
lane_fits : (size addr : ℕ) → size ≤ 3 → addr % 2 ^ size ≡ 0 → addr % 16 + 2 ^ size ≤ 16
lane_fits zero addr small aligned = omega arith
lane_fits (suc zero) addr small aligned = omega arith
lane_fits (suc (suc zero)) addr small aligned = omega arith
lane_fits (suc (suc (suc zero))) addr small aligned = omega arith
lane_fits (suc (suc (suc (suc n)))) addr small aligned = absurd (omega arith)

-- a write's operand has the bytes of its granule
granule_len : (size : ℕ) → size ≤ 6 → min (2 ^ min size 7) 8 ≡ 2 ^ min size 3
granule_len zero small = refl
granule_len (suc zero) small = refl
granule_len (suc (suc zero)) small = refl
granule_len (suc (suc (suc zero))) small = refl
granule_len (suc (suc (suc (suc zero)))) small = refl
granule_len (suc (suc (suc (suc (suc zero))))) small = refl
granule_len (suc (suc (suc (suc (suc (suc zero)))))) small = refl
granule_len (suc (suc (suc (suc (suc (suc (suc n))))))) small = absurd (omega arith)

module _ (i : ℕ) (p : Packet) (be : ℕ) where
  -- a home decides the operation with these byte enables of its quarter
  abbrev Decides : RequestFlit → Type 0
  Decides q = is_told q ≡ true → i < count_of q → p.be ≡ enables_at q i be → IsDecided (fields_at q i).opcode (access_of None (with_packet (fields_at q i) p))

  read_decided : (q : RequestFlit) → Decides (record q { opcode = 0x04 })
  read_decided q told less enables =
      let parts = and_parts (not (is_exclusive (record q { opcode = 0x04 })) && nat_le q.size 6) (address q % 2 ^ min q.size 7 == 0) told in
      let small = leb-true q.size 6 (and_parts (not (is_exclusive (record q { opcode = 0x04 }))) (nat_le q.size 6) parts.0).1 in
      let size : min q.size 7 ≡ q.size = omega arith in
      let aligned = eqb-true (address q % 2 ^ min q.size 7) 0 parts.1 in
      plain_decided (with_packet (fields_at (record q { opcode = 0x04 }) i) p) Read refl (record { len = λ size. refl; profile = λ size. refl }) (omega arith)
      (at_granule q.size (address q) i small (omega arith) (subst (λ (s : ℕ). address q % 2 ^ s ≡ 0) size aligned)
      (subst (λ (s : ℕ). i < (if nat_le q.size 3 then 1 else 2 ^ s / 8)) size less)) (inl refl)

  write_lies : (size addr : ℕ) → size ≤ 6 → addr < 2 ^ 52 → i < (if nat_le size 3 then 1 else 2 ^ min size 7 / 8)
      → Lies (addr / 2 ^ min size 7 * 2 ^ min size 7 + 8 * i) (2 ^ min size 3)
  write_lies size addr small below less =
      let same : min size 7 ≡ size = omega arith in
      let down = aligned_down size addr small below in
      subst (λ (s : ℕ). Lies (addr / 2 ^ s * 2 ^ s + 8 * i) (2 ^ min size 3)) (sym same)
      (at_granule size (addr / 2 ^ size * 2 ^ size) i small down.0 down.1 (subst (λ (s : ℕ). i < (if nat_le size 3 then 1 else 2 ^ s / 8)) same less))

  write_fits : (size addr : ℕ) → size ≤ 6 → addr % 2 ^ min size 3 ≡ 0 → p.be ≡ bit_and be (ones_at (min (2 ^ min size 7) 8) (addr % 16))
      → enables_within (addr % 16) (2 ^ min size 3) p.be ≡ true
  write_fits size addr small aligned enables =
      ap (enables_within (addr % 16) (2 ^ min size 3)) (enables ∙ ap (λ (n : ℕ). bit_and be (ones_at n (addr % 16))) (granule_len size small))
      ∙ within be (min size 3) (addr % 16) (omega arith) (omega arith) (lane_fits (min size 3) addr (omega arith) aligned)

  write_decided : (q : RequestFlit) → Decides (record q { opcode = 0x1c })
  write_decided q told less enables =
      let small = told_size (record q { opcode = 0x1c }) (sized (record q { opcode = 0x1c }) told) in
      let lies = write_lies q.size (address q) small (omega arith) less in
      plain_decided (with_packet (fields_at (record q { opcode = 0x1c }) i) p) Write refl (record { len = λ size. refl; profile = λ size. refl }) (omega arith)
      lies (inl (write_fits q.size (addr_at (record q { opcode = 0x1c }) i) small lies.aligned enables))

  full_decided : (q : RequestFlit) → Decides (record q { opcode = 0x1d })
  full_decided q told less enables =
      let small = told_size (record q { opcode = 0x1d }) (sized (record q { opcode = 0x1d }) told) in
      let lies = write_lies q.size (address q) small (omega arith) less in
      plain_decided (with_packet (fields_at (record q { opcode = 0x1d }) i) p) Write refl (record { len = λ size. refl; profile = λ size. refl }) (omega arith)
      lies (inl (write_fits q.size (addr_at (record q { opcode = 0x1d }) i) small lies.aligned enables))

  compare_decided : (q : RequestFlit) → Decides (record q { opcode = 0x39 })
  compare_decided q told less enables =
      let parts = and_parts (not (is_exclusive (record q { opcode = 0x39 })) && (nat_le 1 q.size && nat_le q.size 4)) (address q % (2 ^ min q.size 7 / 2) == 0) told in
      let fits = (and_parts (not (is_exclusive (record q { opcode = 0x39 }))) (nat_le 1 q.size && nat_le q.size 4) parts.0).1 in
      let some = leb-true 1 q.size (and_parts (nat_le 1 q.size) (nat_le q.size 4) fits).0 in
      let small = leb-true q.size 4 (and_parts (nat_le 1 q.size) (nat_le q.size 4) fits).1 in
      let size : min q.size 7 ≡ q.size = omega arith in
      let aligned = eqb-true (address q % (2 ^ min q.size 7 / 2)) 0 parts.1 in
      let at : address q ≡ address q + 8 * i = omega arith in
      decided_by (with_packet (fields_at (record q { opcode = 0x39 }) i) p) Compare refl fits (omega arith)
      (subst (λ (a : ℕ). Lies a (2 ^ q.size / 2)) at
      (at_half q.size (address q) some small (omega arith) (subst (λ (s : ℕ). address q % (2 ^ s / 2) ≡ 0) size aligned))) (inr refl)

  atomic_decided : (q : RequestFlit) → (q.opcode == 0x1d) ≡ false → is_write q.opcode ≡ false → is_compare q.opcode ≡ false → is_atomic q.opcode ≡ true → q.size ≤ 3 → Decides q
  atomic_decided q partial reads plain atomic small told less enables =
      let range = and_parts (nat_le 0x28 q.opcode) (nat_le q.opcode 0x39) atomic in
      let most : q.opcode ≤ 0x38 = below (leb-true q.opcode 0x39 range.1) in
      let kind = atomic_kind q.opcode (leb-true 0x28 q.opcode range.0) most in
      let a = with_packet (fields_at q i) p in
      let opcode : a.opcode ≡ q.opcode = ap (λ b. if b then 0x1c else q.opcode) partial in
      let size : a.size ≡ q.size = ap (λ b. if b then q.size else min q.size 3) atomic in
      let first : first_addr q ≡ address q = ap (λ b. if b then address q / bytes_of q * bytes_of q else address q) reads in
      let one : i < 1 = subst (λ b. i < (if b || nat_le q.size 3 then 1 else bytes_of q / 8)) atomic less in
      let addr : a.addr ≡ address q = ap (λ (n : ℕ). n + 8 * i) first ∙ omega arith in
      let len : operand_len q ≡ bytes_of q = ap (λ b. if b then bytes_of q / 2 else bytes_of q) plain in
      let bytes : min q.size 7 ≡ q.size = omega arith in
      let lined = (and_parts (not (is_exclusive q) && has_told_size q) (is_write q.opcode || address q % operand_len q == 0) told).1 in
      let aligned : address q % operand_len q ≡ 0 = eqb-true (address q % operand_len q) 0 (subst (λ b. (b || address q % operand_len q == 0) ≡ true) reads lined) in
      plain_decided a kind.kind (ap kind_of opcode ∙ kind.named) kind.plain (subst (λ (s : ℕ). s ≤ 3) (sym size) small)
      (subst (λ (n : ℕ). Lies n (2 ^ a.size)) (sym addr) (subst (λ (s : ℕ). Lies (address q) (2 ^ s)) (sym size)
      (at_length q.size (address q) small (omega arith) (subst (λ (s : ℕ). address q % 2 ^ s ≡ 0) bytes (ap (λ (n : ℕ). address q % n) (sym len) ∙ aligned))))) (inr (ap is_atomic opcode ∙ atomic))
    where
      below : q.opcode ≤ 0x39 → q.opcode ≤ 0x38
      below most = by_case (cases_eq q.opcode 0x39)
        where
          by_case : (q.opcode ≡ 0x39) ⊎ (q.opcode ≡ 0x39 → ⊥) → q.opcode ≤ 0x38
          by_case (inl same) = absurd (true≢false (sym (eq-eqb q.opcode 0x39 same) ∙ plain))
          by_case (inr apart) = omega arith

  pub told_decided : (q : RequestFlit) → Decides q
  told_decided q = by_read (is_read q.opcode) refl (q.opcode == 0x1c) refl (q.opcode == 0x1d) refl (is_compare q.opcode) refl
    where
      by_read : (b : Bool) → is_read q.opcode ≡ b → (c : Bool) → (q.opcode == 0x1c) ≡ c → (d : Bool) → (q.opcode == 0x1d) ≡ d → (e : Bool) → is_compare q.opcode ≡ e → Decides q
      by_read true is c part d full e half = opcode_so q 0x04 Decides (eqb-true q.opcode 0x04 is) (read_decided q)
      by_read false is true part d full e half = opcode_so q 0x1c Decides (eqb-true q.opcode 0x1c part) (write_decided q)
      by_read false is false part true full e half = opcode_so q 0x1d Decides (eqb-true q.opcode 0x1d full) (full_decided q)
      by_read false is false part false full true half = opcode_so q 0x39 Decides (eqb-true q.opcode 0x39 half) (compare_decided q)
      by_read false is false part false full false half =
          λ told less enables.
          let fits : (is_atomic q.opcode && nat_le q.size 3) ≡ true = rw (or_from (is_read q.opcode) (q.opcode == 0x1c) is part, full, half) at (sized q told) in
          let parts = and_parts (is_atomic q.opcode) (nat_le q.size 3) fits in
          atomic_decided q full (or_from (q.opcode == 0x1c) (q.opcode == 0x1d) part full) half parts.0 (leb-true q.size 3 parts.1) told less enables
