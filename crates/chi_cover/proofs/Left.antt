-- what an AtomicLoad leaves in its operand
use Rattle.std.proofs.Common.{◌≡◌, ℕ, ◌+◌, ◌%◌, ◌^◌, ◌<◌, ◌==◌, Bool, true, false, List, ◌++◌, drop, length, take, slice_range, refl, sym, ap, ◌∙◌, arith, eqb-true}
use Rattle.std.proofs.lemmas.Bool.{eqb-false}
use Rattle.std.proofs.lemmas.List.{length-take-le}
use Rattle.chi_fields.specs.Access.{Access, IsLawful, lane_of}
use Rattle.chi_fields.specs.declared.kind.Kind.TheVariants.{Load}
use Rattle.chi_fields.specs.declared.kind.Op.{Op}
use Rattle.chi_lanes.specs.After.{after, after_as, old, same_bytes}
use Rattle.chi_lanes.specs.Bytes.{little, little_bytes}
use Rattle.chi_lanes.specs.Combination.{combine}
use Rattle.chi_lanes.specs.Memory.{Memory, bytes_from, granule_start, with_bytes, word_at}
use Rattle.chi_lanes.specs.Packet.{sent}
use Rattle.chi_lanes.proofs.AfterLemmas.{IsMemory-after, length-combined}
use Rattle.chi_lanes.proofs.CombineLemmas.{little_bytes-number_in}
use Rattle.chi_lanes.proofs.Digits.{length-little_bytes}
use Rattle.chi_lanes.proofs.MemoryLemmas.{bytes_from-with_bytes}
use Rattle.chi_lanes.proofs.Operands.{IsPlaced, old_bytes, placed, same_bytes-differs, same_bytes-self}
use Rattle.chi_lanes.proofs.Runs.{middle_run}
use Rattle.chi_trace.specs.Granules.{with_word}
use Rattle.chi_trace.proofs.Steps.{IsMemory-with_word, word_at-with_word}

module _ (o : Access) (word found : ℕ) (lawful : IsLawful o) (fits : word < 2 ^ 64)
    (made : little_bytes 8 word ≡ take (o.addr % 8) (little_bytes 8 0) ++ (little_bytes o.len found ++ drop (o.addr % 8 + o.len) (little_bytes 8 0))) where
  memory : Memory
  memory = with_word (granule_start o.addr) word

  place : IsPlaced o.addr o.len
  place = placed o.addr o.len lawful.part lawful.aligned

  -- the operand's bytes in a word that has them
  in_word : slice_range (little_bytes 8 word) (o.addr % 8) (o.addr % 8 + o.len) ≡ little_bytes o.len found
  in_word =
      let first : length (take (o.addr % 8) (little_bytes 8 0)) ≡ o.addr % 8 = let count : length (little_bytes 8 0) ≡ 8 = length-little_bytes 8 0 in length-take-le (o.addr % 8) (little_bytes 8 0) (omega arith) in
      ap (λ bs. slice_range bs (o.addr % 8) (o.addr % 8 + o.len)) made
      ∙ middle_run (take (o.addr % 8) (little_bytes 8 0)) (little_bytes o.len found) (drop (o.addr % 8 + o.len) (little_bytes 8 0)) (o.addr % 8) o.len first (length-little_bytes o.len found)

  -- and in a memory that has the word
  old_is : old o memory ≡ little_bytes o.len found
  unfolding memory
  old_is =
      let value : ℕ = little (slice_range (little_bytes 8 word) (o.addr % 8) (o.addr % 8 + o.len)) in
      sym (old_bytes memory (IsMemory-with_word _ word) o.addr o.len word value place (sym (word_at-with_word _ word fits)) refl)
      ∙ (ap (λ bs. little_bytes o.len (little bs)) in_word ∙ little_bytes-number_in false o.len found)

  -- the operand's bytes after an AtomicLoad
  pub left_bytes : (op : Op) (next new : ℕ) → o.kind ≡ Load op → next ≡ word_at (after o (with_word (granule_start o.addr) word)) (granule_start o.addr)
      → new ≡ little (slice_range (little_bytes 8 next) (o.addr % 8) (o.addr % 8 + o.len))
      → little_bytes o.len new ≡ combine op o.endian (little_bytes o.len found) (sent o.lanes (lane_of o.addr) o.len)
  unfolding memory
  left_bytes op next new kind left read =
      let bs : List ℕ = combine op o.endian (old o memory) (sent o.lanes (lane_of o.addr) o.len) in
      let long : length bs ≡ o.len = length-combined op o memory lawful in
      let is : after o memory ≡ with_bytes memory o.addr bs = ap (λ k. after_as k o memory) kind in
      let written : bytes_from (with_bytes memory o.addr bs) o.addr o.len ≡ bs =
      ap (λ n. bytes_from (with_bytes memory o.addr bs) o.addr n) (sym long) ∙ bytes_from-with_bytes memory o.addr bs in
      old_bytes (after o memory) (IsMemory-after o memory (IsMemory-with_word _ word) lawful) o.addr o.len next new place left read
      ∙ (ap (λ m. bytes_from m o.addr o.len) is ∙ (written ∙ ap (λ old. combine op o.endian old (sent o.lanes (lane_of o.addr) o.len)) old_is))

-- numbers are equal exactly where their bytes are
pub same_numbers : (len a b : ℕ) (xs ys : List ℕ) → a < 256 ^ len → b < 256 ^ len → little_bytes len a ≡ xs → little_bytes len b ≡ ys → (a == b) ≡ same_bytes xs ys
same_numbers len a b xs ys a_below b_below a_is b_is = by_test (a == b) refl
  where
    by_test : (t : Bool) → (a == b) ≡ t → t ≡ same_bytes xs ys
    by_test true same =
        let equal : ys ≡ xs = sym b_is ∙ (ap (little_bytes len) (sym (eqb-true a b same)) ∙ a_is) in
        sym (ap (same_bytes xs) equal ∙ same_bytes-self xs)
    by_test false differ = sym (same_bytes-differs len a b xs ys a_below b_below a_is b_is (eqb-false a b differ))
