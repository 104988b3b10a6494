-- lemmas on a number's bytes in the other order, as the processor turns them
use Rattle.std.proofs.Common.{◌≡◌, ℕ, ◌+◌, ◌-◌, ◌*◌, ◌/◌, ◌^◌, ◌<◌, ◌≤◌, List, ◌++◌, length, replicate, refl, ap, ◌∙◌, arith, w64, add-zero}
use Rattle.std.specs.Int.{swap_bytes}
use Rattle.std.proofs.Math.Nat.{div-div-eq-div-mul, div-eq_of_lt}
use Rattle.std.proofs.lemmas.Nat.{shl-shr}
use Rattle.std.proofs.lemmas.List.{length-replicate}
use Rattle.chi_lanes.specs.Bytes.{big, little_bytes}
use Rattle.chi_lanes.proofs.Digits.{length-little_bytes, little_bytes-add, pow_bytes}
use Rattle.chi_lanes.proofs.ReversedBytes.{big-append, big-zeros, little_bytes-zero, big-bound, AreBytes-little_bytes}

-- all eight bytes turned
swap_bytes_is : (n : ℕ) → swap_bytes w64 n ≡ big (little_bytes 8 n)
unfolding big little_bytes
swap_bytes_is n = simp div-div-eq-div-mul (omega arith)

-- the bytes above those of a number are zeros
zeros_above : (len rest n : ℕ) → n < 256 ^ len → little_bytes (len + rest) n ≡ little_bytes len n ++ replicate rest 0
zeros_above len rest n fits = rw (little_bytes-add len rest n, div-eq_of_lt fits, little_bytes-zero rest) refl

-- turned, they stand below its bytes
turned_above : (len rest n : ℕ) → n < 256 ^ len → big (little_bytes (len + rest) n) ≡ big (little_bytes len n) * 256 ^ rest
turned_above len rest n fits =
    let zeros : List ℕ = replicate rest 0 in
    let long : length zeros ≡ rest = length-replicate {A = ℕ} rest 0 in
    rw (zeros_above len rest n fits, big-append (little_bytes len n) zeros, big-zeros rest, long, add-zero) refl

-- the bytes of an operand turned: those of the word, shifted down to the operand's
pub swapped : (len n : ℕ) → len ≤ 8 → n < 256 ^ len → swap_bytes w64 n / 2 ^ (8 * (8 - len)) ≡ big (little_bytes len n)
swapped len n most fits =
    let rest : ℕ = 8 - len in
    let whole : 8 ≡ len + rest = omega arith in
    let eight : big (little_bytes 8 n) ≡ big (little_bytes (len + rest) n) = ap (λ k. big (little_bytes k n)) whole in
    let word : swap_bytes w64 n ≡ big (little_bytes len n) * 256 ^ rest =
    swap_bytes_is n ∙ (eight ∙ turned_above len rest n fits) in
    rw (word, pow_bytes rest) (shl-shr (big (little_bytes len n)) (8 * rest))

-- an operand's bytes turned spell a number that fits it
pub swapped-below : (len n : ℕ) → big (little_bytes len n) < 256 ^ len
swapped-below len n =
    let fits : big (little_bytes len n) < 256 ^ length (little_bytes len n) =
    big-bound (little_bytes len n) (AreBytes-little_bytes len n) in
    rw (length-little_bytes len n) at fits
