-- the packets of the events that flits tell
use lib.Bits.{and_le_l}
use Rattle.std.specs.Prelude.{◌<◌, ◌^◌, ◌==◌, ◌⊎◌, if◌then◌else◌, bit_and, slice_index, slice_index_or}
use Rattle.std.specs.Int.{bit_at}
use Rattle.std.specs.List.{range_with_len}
use Rattle.std.specs.Option.{option_or}
use Rattle.std.proofs.Common.{◌≡◌, ℕ, zero, suc, ◌≤◌, Bool, true, false, List, All, length, replicate, Option, Some, None, IfSome, inl, inr, refl, sym, ap, subst, ◌∙◌, arith}
use Rattle.std.proofs.lemmas.Bool.{cases_lt}
use Rattle.std.proofs.lemmas.List.{get_or_past}
use Rattle.std.proofs.lemmas.List.Elements.{All-get_or, All-map, All-replicate}
use Rattle.std.proofs.lemmas.Option.{none-some}
use Rattle.chi_trace.specs.RequestFields.{IsPacket}
use Rattle.chi_flits.specs.Accepted.{IsChunk}
use Rattle.chi_flits.specs.Answers.{chunk_at, quarters}
use Rattle.chi_flits.specs.declared.flit.Chunk.{Chunk}
use Rattle.chi_flits.specs.declared.flit.DataFlit.{DataFlit}
use Rattle.chi_flits.specs.declared.flit.RequestFlit.{RequestFlit}
use Rattle.chi_flits.specs.Opcodes.{is_write}
use Rattle.chi_flits.specs.Requests.{lanes_at}
use Rattle.chi_flits.specs.Told.{enables_at, kept, only, with_chunks}

-- each byte that is read is one, also past the end
bytes_below : (xs : List ℕ) → All (λ b. b < 256) xs → (i : ℕ) → slice_index xs i < 256
bytes_below xs all i = by_place (cases_lt i (length xs))
  where
    by_place : (i < length xs) ⊎ (length xs ≤ i) → slice_index xs i < 256
    by_place (inl within) = All-get_or (λ b. b < 256) xs i 0 within all
    by_place (inr past) = let none = get_or_past xs i 0 past in omega arith

pub zero_packet : IsPacket 0 (replicate 16 0)
zero_packet = record { bits = omega arith; whole = refl; bytes = bytes_below (replicate 16 0) (All-replicate (λ (b : ℕ). b < 256) 16 0 (omega arith)) }

module _ (c : Chunk) (fits : IsChunk c) where
  enables_below : (q : RequestFlit) (i : ℕ) → enables_at q i c.be < 2 ^ 16
  enables_below q i = by_test (is_write q.opcode)
    where
      by_test : (b : Bool) → (if b then bit_and c.be (lanes_at q i) else c.be) < 2 ^ 16
      by_test true = let less = and_le_l c.be (lanes_at q i) in let bits = fits.bits in omega arith
      by_test false = fits.bits

  kept_below : (bits lane : ℕ) → kept bits c.lanes lane < 256
  kept_below bits lane = by_test (bit_at bits lane == 1)
    where
      by_test : (b : Bool) → (if b then slice_index c.lanes lane else 0) < 256
      by_test true = fits.bytes lane
      by_test false = omega arith

  pub sent_packet : (q : RequestFlit) (i : ℕ) → IsPacket (enables_at q i c.be) (only (enables_at q i c.be) c.lanes)
  sent_packet q i = record {
    bits = enables_below q i;
    whole = refl;
    bytes = bytes_below (only (enables_at q i c.be) c.lanes)
        (All-map (λ (b : ℕ). b < 256) (kept (enables_at q i c.be) c.lanes) (range_with_len 0 16) (λ k d less. kept_below (enables_at q i c.be) (slice_index_or (range_with_len 0 16) k d)));
  }

-- the chunks of a flit, and those that came with it and before
pub chunk_fits : (chunks : List (Option Chunk)) → All (λ c. IfSome c IsChunk) chunks → (c : ℕ) (x : Chunk) → chunk_at chunks c ≡ Some x → IsChunk x
chunk_fits chunks all c x is = by_place (cases_lt c (length chunks))
  where
    by_place : (c < length chunks) ⊎ (length chunks ≤ c) → IsChunk x
    by_place (inl within) = subst (λ (o : Option Chunk). IfSome o IsChunk) is (All-get_or (λ (o : Option Chunk). IfSome o IsChunk) chunks c None within all)
    by_place (inr past) = absurd (none-some x (sym (get_or_past chunks c None past) ∙ is))

-- what is at each quarter of a line of which this is at each
pub quarter_is : {A : Type 0} (f : ℕ → A) (c : ℕ) (d : A) → c < 4 → slice_index_or (quarters f) c d ≡ f c
quarter_is f zero d below = refl
quarter_is f (suc zero) d below = refl
quarter_is f (suc (suc zero)) d below = refl
quarter_is f (suc (suc (suc zero))) d below = refl
quarter_is f (suc (suc (suc (suc n)))) d below = absurd (omega arith)

at_quarters : (f : ℕ → Option Chunk) (c : ℕ) (x : Chunk) → chunk_at (quarters f) c ≡ Some x → f c ≡ Some x
at_quarters f zero x is = is
at_quarters f (suc zero) x is = is
at_quarters f (suc (suc zero)) x is = is
at_quarters f (suc (suc (suc zero))) x is = is
at_quarters f (suc (suc (suc (suc n)))) x is = absurd (none-some x is)

pub no_chunks : (c : ℕ) (x : Chunk) → chunk_at (quarters (λ c. None)) c ≡ Some x → IsChunk x
no_chunks c x is = absurd (none-some x (at_quarters (λ c. None) c x is))

pub more_chunks : (d : DataFlit) (chunks : List (Option Chunk)) → All (λ c. IfSome c IsChunk) d.chunks → ((c : ℕ) (x : Chunk) → chunk_at chunks c ≡ Some x → IsChunk x)
    → (c : ℕ) (x : Chunk) → chunk_at (with_chunks d chunks) c ≡ Some x → IsChunk x
more_chunks d chunks own before c x is = by_own (chunk_at d.chunks c) refl (at_quarters (λ c. option_or (chunk_at d.chunks c) (chunk_at chunks c)) c x is)
  where
    by_own : (o : Option Chunk) → chunk_at d.chunks c ≡ o → option_or (chunk_at d.chunks c) (chunk_at chunks c) ≡ Some x → IsChunk x
    by_own None at is = before c x (ap (λ (o : Option Chunk). option_or o (chunk_at chunks c)) (sym at) ∙ is)
    by_own (Some y) at is = chunk_fits d.chunks own c x (at ∙ (ap (λ (o : Option Chunk). option_or o (chunk_at chunks c)) (sym at) ∙ is))
