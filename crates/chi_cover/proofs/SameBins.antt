-- what is kept of the operations that are open gives the same bins
use Rattle.std.proofs.Common.{◌≡◌, ℕ, ◌+◌, ◌≤◌, ◌==◌, ◌&&◌, not, Bool, false, cond, nat_le, nat_lt, inl, inr, List, filter, map, sym, ap, ◌∙◌, arith}
use Rattle.std.specs.List.{list_any}
use Rattle.std.proofs.lemmas.Bool.{cases_lt, lt-leb, ne_eqb}
use Rattle.std.proofs.lemmas.List.Elements.{filter_agree}
use Rattle.chi_fields.specs.Access.{Access}
use Rattle.chi_trace.specs.declared.operation.Operation.{Operation}
use Rattle.chi_trace.specs.Explains.{at}
use Rattle.chi_cover.specs.declared.bin.Bin.TheVariants.{Overlap, Requester}
use Rattle.chi_cover.specs.declared.bin.Depth.TheVariants.{More}
use Rattle.chi_cover.specs.Bins.{all_transactions, yes_and_no}
use Rattle.chi_cover.specs.Numbers.{transaction_number}
use Rattle.chi_cover.specs.Open.{has_alike, up_to_eight}
use Rattle.chi_cover.specs.Traffic.{depth_of, has_requester, has_transaction, have_common_byte, open_before, overlap_bins_at, overlapping, requester_bins_at, transaction_of}
use Rattle.chi_cover.proofs.Likeness.{IsAlike, any_filtered, same_answers}

-- from eight others on all are of one bin
deep : (n : ℕ) → 8 ≤ n → depth_of (n + 1) ≡ More
deep n many =
    let one : nat_le (n + 1) 1 ≡ false = lt-leb (n + 1) 1 (omega arith) in
    let two : ((n + 1) == 2) ≡ false = ne_eqb (n + 1) 2 (λ is. omega (arith, is)) in
    let four : nat_le (n + 1) 4 ≡ false = lt-leb (n + 1) 4 (omega arith) in
    let eight : nat_le (n + 1) 8 ≡ false = lt-leb (n + 1) 8 (omega arith) in
    rw (one, two, four, eight)

-- numbers that are the same up to eight are of one bin, with the operation that starts
pub same_depth : (a b : ℕ) → up_to_eight a ≡ up_to_eight b → depth_of (a + 1) ≡ depth_of (b + 1)
same_depth a b same = elim (cases_lt a 8) [
  | inl few ↦ let equal : a ≡ b = omega arith in ap (λ n. depth_of (n + 1)) equal
  | inr many ↦ let as_many : 8 ≤ b = omega arith in deep a many ∙ sym (deep b as_many)
]

-- alike operations have a byte in common with the same others
same_common : (other : Access) (a b : Operation) → IsAlike a b → have_common_byte a.access other ≡ have_common_byte b.access other
same_common other a b alike =
    ap (λ addr. nat_lt addr (other.addr + other.len) && nat_lt other.addr (addr + a.access.len)) alike.addr
    ∙ ap (λ len. nat_lt b.access.addr (other.addr + other.len) && nat_lt other.addr (b.access.addr + len)) alike.len

module _ (trace : List Operation) (i : ℕ) (places : List ℕ) (same : (op : Operation) → has_alike trace places op ≡ has_alike trace (open_before trace i) op) where
  -- those that have a byte in common with the operation
  abbrev common : ℕ → Bool
  common j = have_common_byte (at trace j).access (at trace i).access

  -- some operation with a common byte passes a test that does not tell alike ones apart where some open one does
  same_found : (test : Operation → Bool) → ((a b : Operation) → IsAlike a b → test a ≡ test b)
      → list_any (λ j. test (at trace j)) (filter common places) ≡ list_any (λ j. test (at trace j)) (overlapping trace i)
  same_found test respects =
      any_filtered common (λ j. test (at trace j)) places
      ∙ (same_answers trace places (open_before trace i) (λ op. have_common_byte op.access (at trace i).access && test op) same
      (λ a b alike holds. ap (λ t. t && test a) (same_common (at trace i).access a b alike) ∙ (ap (λ t. have_common_byte b.access (at trace i).access && t) (respects a b alike) ∙ holds))
      ∙ sym (any_filtered common (λ j. test (at trace j)) (open_before trace i)))

  pub same_overlaps : overlap_bins_at trace i (filter common places) ≡ overlap_bins_at trace i (overlapping trace i)
  same_overlaps =
      ap (map (λ t. Overlap t (transaction_of (at trace i).access.kind)))
      (filter_agree (has_transaction trace (filter common places)) (has_transaction trace (overlapping trace i))
      (λ t. same_found (λ op. transaction_number (transaction_of op.access.kind) == transaction_number t) (λ a b alike. ap (λ n. n == transaction_number t) alike.transaction)) all_transactions)

  pub same_requesters : requester_bins_at trace i (filter common places) ≡ requester_bins_at trace i (overlapping trace i)
  same_requesters =
      ap (map Requester)
      (filter_agree (has_requester trace (filter common places) (at trace i).src) (has_requester trace (overlapping trace i) (at trace i).src)
      (λ yes. same_found (λ op. cond yes (op.src == (at trace i).src) (not (op.src == (at trace i).src)))
      (λ a b alike. ap (λ src. cond yes (src == (at trace i).src) (not (src == (at trace i).src))) alike.src)) yes_and_no)
