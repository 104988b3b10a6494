-- the writes that stand for words
use Rattle.std.proofs.Common.{◌≡◌, ℕ, zero, suc, ◌*◌, ◌/◌, ◌^◌, ◌%◌, ◌==◌, ◌<◌, nat_lt, slice_index, All, List, [], ◌∷◌, map, Bool, true, false, cond, Some, None, Result, Ok, Err, IfOk, IfSome, refl, arith}
use Rattle.std.specs.Prelude.{option_map}
use Rattle.std.specs.Int.{to_le_bytes, w64}
use Rattle.std.proofs.lemmas.List.Elements.{All-append, All-cons, All-head, All-nil, All-tail}
use Rattle.std.specs.Result.{result_ok}
use Rattle.chi_fields.specs.Access.{Access}
use Rattle.chi_fields.specs.declared.refusal.Refusal.{Refusal}
use Rattle.chi_events.specs.declared.event.WordTold.{WordTold}
use Rattle.chi_events.proofs.Opens.{IsAccessAt, accessed as accessed_at}
use Rattle.chi_lanes.specs.declared.reply.Reply.TheVariants.{Comp}
use Rattle.chi_trace.specs.Explains.{IsOperation}
use Rattle.chi_trace.specs.Granules.{granule_of}
use Rattle.chi_trace.specs.RequestFields.{IsPacket, access_of, as_operation}
use Rattle.chi_trace.specs.declared.operation.Operation.{Operation}
use Rattle.chi_trace.proofs.Decided.{IsWithin, accessed}
use Rattle.chi_watch.specs.WordsTold.{write_at, write_fields}

-- it is taken and completed at the time, and is of the granule
pub record IsWriteOf (time g : ℕ) (op : Operation) : Type 0 where
  pub start : op.start ≡ time
  pub end : op.end ≡ time
  pub at : granule_of op ≡ g
  pub is : IsOperation op

enables_fit : (b : Bool) → cond b 0xff 0xff00 < 2 ^ 16
enables_fit true = omega arith
enables_fit false = omega arith

-- the bytes of a word are below 256
abbrev IsByte : ℕ → Type 0
IsByte byte = byte < 256

low_bytes : (ns : List ℕ) → All IsByte (map (λ n. n % 256) ns)
low_bytes [] = All-nil IsByte
low_bytes (n ∷ ns) = All-cons IsByte (n % 256) (map (λ m. m % 256) ns) (omega arith) (low_bytes ns)

each_byte : (n : ℕ) → All IsByte (to_le_bytes w64 n)
each_byte n =
    low_bytes (n ∷ n / 256 ∷ n / 65_536 ∷ n / 16_777_216 ∷ n / 4_294_967_296 ∷ n / 1_099_511_627_776 ∷ n / 281_474_976_710_656 ∷ n / 72_057_594_037_927_936 ∷ [])

byte_in : (bytes : List ℕ) (i : ℕ) → All IsByte bytes → slice_index bytes i < 256
byte_in [] zero all = omega arith
byte_in [] (suc i) all = omega arith
byte_in (byte ∷ bytes) zero all = All-head IsByte byte bytes all
byte_in (byte ∷ bytes) (suc i) all = byte_in bytes i (All-tail IsByte byte bytes all)

packed : (w : WordTold) → IsPacket (write_fields w).be (write_fields w).lanes
packed w = record {
  bits = enables_fit (w.granule % 2 == 0);
  whole = refl;
  bytes = λ i. byte_in (write_fields w).lanes i (All-append IsByte (to_le_bytes w64 w.word) (to_le_bytes w64 w.word) (each_byte w.word) (each_byte w.word));
}

pub written : (time : ℕ) (w : WordTold) → IfSome (write_at time w) (IsWriteOf time w.granule)
written time w = by_test (nat_lt w.granule (2 ^ 49))
  where
    by_result : (r : Result Access Refusal) → IfOk r IsWithin → IfSome (result_ok r) (IsAccessAt (8 * w.granule))
        → IfSome (option_map (λ access. as_operation (write_fields w) access time time (Some Comp)) (result_ok r)) (IsWriteOf time w.granule)
    by_result (Ok access) within at = record { start = refl; end = refl; at = omega (arith, at.at); is = record { lawful = within.lawful; within = within.below; lasting = omega arith } }
    by_result (Err refusal) within at = tt

    by_test : (b : Bool) → IfSome (cond b (option_map (λ access. as_operation (write_fields w) access time time (Some Comp)) (result_ok (access_of None (write_fields w)))) None) (IsWriteOf time w.granule)
    by_test true = by_result (access_of None (write_fields w)) (accessed None (write_fields w) (packed w) tt) (accessed_at (write_fields w))
    by_test false = tt
