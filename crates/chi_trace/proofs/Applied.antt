-- what is said of an operation at a word of a region, said of it at any address
use Rattle.std.proofs.Common.{◌≡◌, ℕ, ◌+◌, ◌-◌, ◌*◌, ◌/◌, ◌^◌, ◌<◌, ◌≤◌, nat_le, true, sym, ap, ◌∙◌, arith}
use Rattle.std.proofs.lemmas.Bool.{and_from}
use Rattle.std.proofs.lemmas.Bool.Decides.{nat_tests}
use Rattle.chi_fields.specs.Access.{Access, IsLawful, IsLen}
use Rattle.chi_fields.specs.Extent.{Extent, IsRegion, granule_of, lies_in}
use Rattle.chi_lanes.specs.Memory.{Memory, granule_start, word, word_at}
use Rattle.chi_lanes.proofs.Operands.{placed}
use Rattle.chi_trace.specs.Granules.{with_word}
use Rattle.chi_trace.proofs.Steps.{word_at-with_word}

-- the 64 bytes around an address
abbrev pub line : ℕ → Extent
line addr = record { base = addr / 64 * 64; granules = 8 }

some_length : (len : ℕ) → IsLen len → 0 < len
some_length len part = grind arith

pub IsRegion-line : (o : Access) → IsLawful o → o.addr + o.len ≤ 2 ^ 52 → IsRegion (line o.addr)
IsRegion-line o lawful within =
    let some : 0 < o.len = some_length o.len lawful.part in
    record {
      line = omega arith;
      least = omega arith;
      most = omega arith;
      end = omega arith;
    }

pub in_line : (o : Access) → IsLawful o → lies_in o.addr o.len (line o.addr) ≡ true
in_line o lawful =
    let place = placed o.addr o.len lawful.part lawful.aligned in
    let from : nat_le (o.addr / 64 * 64) o.addr ≡ true = grind (arith, nat_tests) in
    let room : o.addr + o.len ≤ o.addr / 64 * 64 + 8 * 8 = omega (arith, place.at, place.room) in
    let to : nat_le (o.addr + o.len) (o.addr / 64 * 64 + 8 * 8) ≡ true = grind (arith, nat_tests) in
    and_from (nat_le (o.addr / 64 * 64) o.addr) (nat_le (o.addr + o.len) (o.addr / 64 * 64 + 8 * 8)) from to

-- the word of an operation's granule in these bytes
pub word_in_line : (m : Memory) (addr : ℕ) → word m (line addr) (granule_of addr (line addr)) ≡ word_at m (granule_start addr)
word_in_line m addr =
    let at : addr / 64 * 64 + 8 * ((addr - addr / 64 * 64) / 8) ≡ addr / 8 * 8 = omega arith in
    ap (word_at m) at

-- a word is that of the memory that has it there
pub word_here : (addr w : ℕ) → w < 2 ^ 64 → w ≡ word (with_word (granule_start addr) w) (line addr) (granule_of addr (line addr))
word_here addr w fits = sym (word_in_line (with_word (granule_start addr) w) addr ∙ word_at-with_word (granule_start addr) w fits)
